-- What a line leaves in a slice, and lines one after the other.
--     Placed       a slice with a word in it
--     Written      a line written at a place; Wrote: what was written since a place
--     Adds         what is added to lines
pub mod Placed
pub mod Written
pub mod Adds

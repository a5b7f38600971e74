-- What each case of an answer of this crate says.
pub mod Answer

-- the crate's root
pub mod Degree
pub mod Product
pub mod Shift
pub mod Division

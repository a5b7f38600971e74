-- What the tables must satisfy.
pub mod Blocks

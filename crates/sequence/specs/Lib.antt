-- the crate's root
pub mod Zeros
pub mod At
pub mod Massey
pub mod Product
pub mod Reversal
pub mod Search
pub mod Steps
pub mod Invariant
pub mod Shortest

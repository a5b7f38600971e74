pub mod Ring
pub mod Sum
pub mod Polynomial

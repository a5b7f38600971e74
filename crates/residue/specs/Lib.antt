-- the crate's root
pub mod Numbers
pub mod Prime
pub mod Inverse
pub mod Residue
pub mod Lists

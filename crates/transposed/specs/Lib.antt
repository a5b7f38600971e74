-- what the contracts cite
pub mod Transposed

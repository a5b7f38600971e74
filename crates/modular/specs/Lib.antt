-- what the contracts say for all words, and what that is for a record that `of` made
pub mod Words
pub mod Shoup
pub mod Modulus
pub mod Total
pub mod Sums
pub mod Diagonal

-- what the contracts cite
pub mod Operator
pub mod Region
pub mod Horner
pub mod Offered
pub mod Answers
pub mod Projection
pub mod Turns
pub mod Pass
pub mod Window

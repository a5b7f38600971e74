-- what the contracts cite, and what the checks leave known
pub mod Valid
pub mod Matrix
pub mod Recurrence
pub mod Solver
pub mod Pass
pub mod Products
pub mod Answers
pub mod Slices

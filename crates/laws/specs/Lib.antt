-- Laws of the meaning's definitions. Callers cite these and leave the definitions shut.
pub mod Accepted
pub mod Bool
pub mod List
pub mod Written
pub mod Part
pub mod Products
pub mod Least
pub mod Lent
pub mod Recurrence
pub mod Refusal
pub mod Solver

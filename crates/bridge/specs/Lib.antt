-- the crate's root
pub mod Lists
pub mod Scaled
pub mod Recurrence
pub mod Operator
pub mod Run
pub mod ThirdCondition

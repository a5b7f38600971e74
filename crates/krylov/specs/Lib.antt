pub mod Operator
pub mod Dependence
pub mod Pass
pub mod Run
pub mod Verdict

-- laws that only the proofs here use
pub mod Represented
pub mod Stepping
pub mod HoldsGenerator
pub mod Recurred

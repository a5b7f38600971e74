-- Laws that only this crate's proofs use.
pub mod Cofactors
pub mod Refusals
pub mod Entries

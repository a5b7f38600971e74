-- Laws that only this crate's proofs use.
pub mod Laid
pub mod Small

-- Laws that only this crate's proofs use.
pub mod Walk

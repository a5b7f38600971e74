-- What the contracts cite, and the laws that tie it to the meaning.
pub mod Answers
pub mod Scan
pub mod Order
pub mod Fields
pub mod Lines
pub mod Places
pub mod Surveys
pub mod Fill

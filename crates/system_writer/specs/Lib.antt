-- What the contracts cite, and the laws that tie it to the meaning.
pub mod Answers
pub mod Writes

-- What is proved of document 01's definitions.
pub mod Rows  -- document 01's cases, proved by computation

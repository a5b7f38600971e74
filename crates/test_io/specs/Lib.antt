-- What the contracts cite.
--     Lists      the lists that stand in a memory
--     Cases      the calls that stand there
--     Hash       the hash of what a slice holds
pub mod Lists
pub mod Cases
pub mod Hash

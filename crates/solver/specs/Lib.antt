-- what the contracts cite
pub mod Bill
pub mod Run
pub mod Verdict
pub mod System

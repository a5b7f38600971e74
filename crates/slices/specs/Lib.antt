-- what the contracts cite
pub mod Copy

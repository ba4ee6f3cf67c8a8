pub mod Found
pub mod Short

pub mod Edits
pub mod Begun
pub mod Checking
pub mod Wholes

pub mod Calls
pub mod Checks
pub mod Closed
pub mod Closing
pub mod Models
pub mod Sounds

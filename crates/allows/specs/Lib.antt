pub mod Allows
pub mod Hub
pub mod Lawful
pub mod Live
pub mod Paths
pub mod Slots
pub mod Source
pub mod Trust

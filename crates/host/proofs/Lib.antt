pub mod Scans
pub mod Sounds

pub mod Spelled
pub mod Lists
pub mod Places
pub mod Tables
pub mod Taken
pub mod Fits
pub mod Sounds
pub mod Counts

pub mod Tables
pub mod Reads
pub mod Wanted

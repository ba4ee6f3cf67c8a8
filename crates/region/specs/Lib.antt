pub mod Tables
pub mod Sound
pub mod Privileges
pub mod Numbering

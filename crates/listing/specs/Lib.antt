pub mod Words
pub mod Rows
pub mod Entries
pub mod Files
pub mod Laws

pub mod Forms
pub mod Grants
pub mod Lawful
pub mod Printing

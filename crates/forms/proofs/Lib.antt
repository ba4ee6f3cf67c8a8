pub mod Visible
pub mod Words
pub mod Lengths
pub mod Back
pub mod Named

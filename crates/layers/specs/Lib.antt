pub mod Answers
pub mod Layered
pub mod Layers

pub mod Chains
pub mod Measures
pub mod Names
pub mod Rules
pub mod Weights
pub mod Weighing

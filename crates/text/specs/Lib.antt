pub mod Bytes
pub mod Cuts
pub mod Paths
pub mod Kept
pub mod PartLaws
pub mod Parts

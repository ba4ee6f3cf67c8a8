pub mod Parted
pub mod PathLaws
pub mod Wholes
pub mod Joins
pub mod Digits
pub mod Few

pub mod Views
pub mod Pushes
pub mod Counts
pub mod AccountLaws
pub mod HostLaws
pub mod GroupLaws
pub mod Listed

pub mod Boards
pub mod Labels
pub mod Lists
pub mod Outcomes
pub mod Plans
pub mod Questions
pub mod Refusals
pub mod Trails

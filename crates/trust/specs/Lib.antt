pub mod Rows
pub mod Formed
pub mod TrustText
pub mod DomainText

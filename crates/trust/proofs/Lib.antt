pub mod TrustLaws
pub mod DomainLaws

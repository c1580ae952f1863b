pub mod CertificateLaws
pub mod ReadCostLaws
pub mod SignerLaws

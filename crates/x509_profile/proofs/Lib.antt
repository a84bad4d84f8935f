pub mod ContentLaws
pub mod ExtensionLaws
pub mod CertLaws
pub mod ChainLaws
pub mod AuthorityLaws

pub mod SharedParts
pub mod CertificateJoined
pub mod CertificateSaid
pub mod CertificateOnce
pub mod ListJoined
pub mod ListSaid
pub mod ListOnce

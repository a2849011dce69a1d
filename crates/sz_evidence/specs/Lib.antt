pub mod Reason
pub mod Authorised
pub mod Judgement
pub mod View
pub mod IdentityFile

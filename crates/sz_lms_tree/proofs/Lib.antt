pub mod Chains
pub mod Climb
pub mod Keeping
pub mod Lists
pub mod Places
pub mod Signed
pub mod Types

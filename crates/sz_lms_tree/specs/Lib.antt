pub mod Kept
pub mod Places
pub mod Tree
pub mod View

pub mod Limits
pub mod Reply
pub mod Asked
pub mod Coming

pub mod Request
pub mod Reply
pub mod Fetch
pub mod Coming
pub mod Downloads

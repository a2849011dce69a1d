pub mod Counts
pub mod Keys
pub mod Lives
pub mod Opened

pub mod Days
pub mod Seconds

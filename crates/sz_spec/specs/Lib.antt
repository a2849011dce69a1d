pub mod Cause
pub mod Told

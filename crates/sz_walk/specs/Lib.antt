pub mod Visits
pub mod Runs
pub mod Walk
pub mod Progress

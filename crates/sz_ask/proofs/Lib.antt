mod Comings
pub mod Runs

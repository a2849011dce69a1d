mod Changing
mod Completing
mod Counting
mod Crashing
pub mod Finding
pub mod Holding
mod Idling
mod Living
mod Sparing
mod Stepping
mod Trying
mod Turning

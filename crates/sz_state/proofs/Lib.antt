mod Capacity
mod Causes
pub mod Changing
mod Crash
pub mod Elsewhere
mod Finding
mod Lengths
mod Making
mod Pieces
mod Places
mod Replacing

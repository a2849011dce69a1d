pub mod Lists
mod Keeping
pub mod Running
mod Sound
mod Steps

pub mod Folder
pub mod Memory
pub mod Plan
pub mod Read
pub mod Connection
pub mod Net
pub mod Added
pub mod Listener

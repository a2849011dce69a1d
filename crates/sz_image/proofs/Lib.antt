pub mod Replies
pub mod Rooms
pub mod Comings
pub mod Choices

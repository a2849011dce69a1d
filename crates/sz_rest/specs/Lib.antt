pub mod Fault
pub mod Message
pub mod Request
pub mod Asked
pub mod Reply
pub mod ReplyText

pub mod Boot
pub mod Choice
pub mod Complete
pub mod Crash
pub mod Ending
pub mod Life
pub mod Lost
pub mod Quest

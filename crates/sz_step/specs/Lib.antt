pub mod Boots
pub mod Lawful
pub mod Step

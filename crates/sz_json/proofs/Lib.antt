pub mod Base64
pub mod Faultless
pub mod Faults
pub mod Instants
pub mod Light
pub mod Marks
pub mod Objects
pub mod Readings

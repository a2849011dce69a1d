pub mod Filling
pub mod Fronts
pub mod Parts

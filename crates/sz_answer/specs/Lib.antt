pub mod Visit
pub mod Parts

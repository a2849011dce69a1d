pub mod Parts
pub mod Certificate
pub mod RevocationList

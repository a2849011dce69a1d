pub mod Limits
pub mod Answer
pub mod Fault
pub mod Name
pub mod Order
pub mod Part
pub mod Record
pub mod Service

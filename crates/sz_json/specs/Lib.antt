pub mod Name
pub mod Json
pub mod Bounded
pub mod Form
pub mod Member
pub mod Fault
pub mod Object

pub mod Cell
pub mod Fault
pub mod Header
pub mod Meaning
pub mod Slot
pub mod Transition
pub mod Write

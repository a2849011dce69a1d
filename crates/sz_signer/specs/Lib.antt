pub mod Answer
pub mod Fault
pub mod KeyDisk
pub mod Leaves
pub mod Life
pub mod State

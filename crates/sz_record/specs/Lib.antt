pub mod Appended
pub mod Device
pub mod Fault
pub mod Field
pub mod Reading
pub mod Size
pub mod Spelling
pub mod Stored

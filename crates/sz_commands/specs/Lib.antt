pub mod Disks
pub mod Ending
pub mod Failure
pub mod Objects
pub mod Printed
pub mod View

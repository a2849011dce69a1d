pub mod ReadPairs
pub mod Padded
pub mod Numerals
pub mod HostForms
pub mod Splits

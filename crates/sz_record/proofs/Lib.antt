mod Anchors
mod Appending
mod Faults
mod Fields
mod Numbers
mod Once
pub mod Parts
mod Told
mod Totals

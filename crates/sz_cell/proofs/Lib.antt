mod Elements
mod Fresh
mod Judged
mod ReadBack
pub mod Elsewhere
pub mod Regions
pub mod Slots
pub mod States
pub mod Torn
pub mod Values
pub mod Writes

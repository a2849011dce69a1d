pub mod Gregorian
pub mod CivilTime
pub mod DateTime

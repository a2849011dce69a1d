mod Parts
mod Untold
mod Writes

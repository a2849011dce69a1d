mod Fitting
mod Making
mod Naming
mod Sparing
mod Taking

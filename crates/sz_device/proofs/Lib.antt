mod Lines
mod Moment
mod Naming
mod Reading
mod Refusing

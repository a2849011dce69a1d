pub mod Pairs
pub mod Fronts
pub mod Rests
pub mod Exchanges
pub mod Connections

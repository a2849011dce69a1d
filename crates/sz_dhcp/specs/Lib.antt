pub mod Codes6
pub mod Codes4
pub mod DhcpOption
pub mod Fault
pub mod Message4
pub mod Message6
pub mod Spelled
pub mod UriList

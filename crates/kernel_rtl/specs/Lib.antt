pub mod Planned
pub mod Storage
pub mod Words
pub mod Handshakes

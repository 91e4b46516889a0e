pub mod Ports
pub mod Shortages

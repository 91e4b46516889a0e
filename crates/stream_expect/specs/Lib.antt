pub mod Expected
pub mod Refused
pub mod Ports
pub mod Widths

pub mod Wires
pub mod Signals
pub mod Ports
pub mod Storage

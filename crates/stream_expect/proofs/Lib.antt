mod Balancing
mod Counting
mod Guarding
pub mod Ports
mod SamePorts
mod Starting
mod Widths

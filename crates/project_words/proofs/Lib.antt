mod Families
mod Feeding
mod Knowing
mod Placing
pub mod Ports
mod Runs
mod Widths

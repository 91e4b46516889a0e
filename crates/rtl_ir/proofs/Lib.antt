pub mod Parts
pub mod Grow
pub mod Accepted
pub mod Words
pub mod Ports
pub mod Only
pub mod Exists
pub mod Loops
pub mod Kept
pub mod OneRun
pub mod Each
mod Examples
mod Turned

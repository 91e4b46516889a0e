pub mod Fed
pub mod Paths
pub mod FirstFault
pub mod Checked
pub mod Lines
pub mod Picked
pub mod Inputs

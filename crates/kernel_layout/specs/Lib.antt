pub mod Reads
pub mod Waits
pub mod Layouts

pub mod Building
pub mod Built
pub mod Lines
pub mod Runs
pub mod Sending

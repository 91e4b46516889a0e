pub mod Building
pub mod Causes
pub mod Errors
pub mod Lines

pub mod Hex
pub mod RunFiles
pub mod Keys
pub mod Lines
pub mod Ahead
pub mod WordFiles
pub mod Written
pub mod Refused

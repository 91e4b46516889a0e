pub mod Flow
pub mod Optimum

pub mod Beginning
mod Least
pub mod Lowering
pub mod Unique

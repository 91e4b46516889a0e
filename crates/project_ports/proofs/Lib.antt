mod Alone
pub mod Shapes

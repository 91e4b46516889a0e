pub mod Pieces
pub mod Judged
pub mod Refusing

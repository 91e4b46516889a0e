pub mod Tokens
pub mod Tree
pub mod Productions
pub mod Text

pub mod Grammar
pub mod Stack
pub mod Bytes
pub mod Tokens
pub mod Completing

pub mod Tokens
pub mod Scanning
pub mod Reading
pub mod Lexemes
pub mod Faults

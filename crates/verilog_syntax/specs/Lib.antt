pub mod Scanning
pub mod Parsing
pub mod Pieces
pub mod Trees
pub mod Parsed

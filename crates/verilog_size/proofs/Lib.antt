pub mod Slices
pub mod Numerals
pub mod Slots
pub mod Bytes
pub mod Names
pub mod Whole
pub mod OwnNames

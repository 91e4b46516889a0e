mod Bits
mod Counted
pub mod Facts
mod Rising
mod Stored

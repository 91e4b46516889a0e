pub mod Bits
pub mod Counting
pub mod Outs
pub mod Listing
pub mod Telling
pub mod Kept
pub mod Built

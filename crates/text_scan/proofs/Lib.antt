pub mod ByteTests
pub mod GapLemmas
pub mod Fronts
pub mod Places
pub mod Readings
pub mod Digits

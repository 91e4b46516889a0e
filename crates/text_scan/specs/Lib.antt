pub mod Classes
pub mod Gaps
pub mod Places

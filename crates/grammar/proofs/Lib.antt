pub mod Stack
pub mod Leftmost
pub mod Reading
pub mod Completing

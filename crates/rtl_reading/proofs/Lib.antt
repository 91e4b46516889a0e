pub mod Examples
pub mod Same
pub mod Sound
pub mod Accepted

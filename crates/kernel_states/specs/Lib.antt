pub mod States
pub mod Starting
pub mod Stepping
pub mod Closing

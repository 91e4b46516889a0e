pub mod DelaysBelow
pub mod Collecting
pub mod Tapping
pub mod Gathering
pub mod Deciding

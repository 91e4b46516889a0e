pub mod Counts
pub mod Schedule
pub mod Keeping
pub mod Kept
pub mod Balance
pub mod Draining
pub mod Done
pub mod OnTime

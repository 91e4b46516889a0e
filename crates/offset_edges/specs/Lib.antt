pub mod Edges
pub mod Latencies
pub mod Problems
pub mod Refused
pub mod Schedules
pub mod Walks

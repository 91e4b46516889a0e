pub mod Sums
mod Stages
mod Mapped
mod Building
pub mod Readable
pub mod Stepping
pub mod Costs

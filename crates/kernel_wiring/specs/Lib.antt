pub mod Words
pub mod Timing
pub mod States
pub mod Costs
pub mod OneNode
pub mod AllNodes
pub mod Controls

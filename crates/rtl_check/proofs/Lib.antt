pub mod ModuleGraphs
pub mod Again
pub mod Places
pub mod Feeding
pub mod Parted
pub mod Marked
pub mod WidthTests
pub mod Edges
pub mod Pathed
pub mod OfKind
pub mod Graphs
pub mod Sound
mod Picked

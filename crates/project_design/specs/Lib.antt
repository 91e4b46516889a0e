pub mod Nodes
pub mod Building

pub mod Chains
pub mod Families
pub mod Paths
pub mod Sides
pub mod Steps

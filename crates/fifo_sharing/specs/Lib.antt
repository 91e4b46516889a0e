pub mod Chains
pub mod Delays

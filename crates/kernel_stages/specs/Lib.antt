pub mod Numbers
pub mod Chains
pub mod Starting
pub mod Closing

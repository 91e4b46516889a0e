pub mod Lists
pub mod Climbing
pub mod Pipelines
pub mod Chaining
pub mod Freeing
pub mod Ends

mod Lists
mod Scheduled
mod Made
mod Refusing
pub mod Unique
pub mod Excluding

pub mod Bits
pub mod Scheduled
pub mod Modules
pub mod Netlists
pub mod Refused

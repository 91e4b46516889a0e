pub mod Scheduled
pub mod Netlists
pub mod Refused
pub mod Lines
pub mod Laws

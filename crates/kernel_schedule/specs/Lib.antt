pub mod Beginning
pub mod Refused
pub mod Schedules

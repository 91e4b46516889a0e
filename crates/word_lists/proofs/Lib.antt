pub mod Saying
pub mod Written

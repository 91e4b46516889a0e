pub mod Refused
pub mod Tables
pub mod Built
pub mod Walk
pub mod Joined
pub mod Answers
pub mod Lines

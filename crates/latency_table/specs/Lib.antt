pub mod Names
pub mod Rows
pub mod Tables
pub mod Refused

pub mod Times
pub mod Parts
pub mod Judging
pub mod Steps

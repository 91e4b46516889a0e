pub mod Sum
mod Claims
pub mod Direct
pub mod Parting
pub mod Runs
pub mod Storing
mod Summing
mod Values
mod Words

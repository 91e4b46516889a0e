pub mod Given
pub mod Words
pub mod Open
pub mod Sources
pub mod Family

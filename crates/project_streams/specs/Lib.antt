pub mod Streams
pub mod Guarded
pub mod Ideal
pub mod Balanced
pub mod Laws

pub mod Streams
pub mod Filling
pub mod Guarded
pub mod Sides

pub mod Sourcing
pub mod Reading
pub mod Arcs
pub mod Staging
pub mod Looping
pub mod Laying

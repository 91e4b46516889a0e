pub mod Equations
pub mod Words

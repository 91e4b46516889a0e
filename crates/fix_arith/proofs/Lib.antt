mod Powers
pub mod Signed
pub mod Floors
pub mod Residues
pub mod Roundings
pub mod Words
pub mod Casts
pub mod Products
pub mod Operands
mod Divisions
mod Examples
pub mod Comparisons

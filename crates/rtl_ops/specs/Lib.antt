pub mod Orders
pub mod Operands
pub mod Costs
pub mod Fragments

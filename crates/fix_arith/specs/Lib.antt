pub mod Types
pub mod Typing
pub mod Values
pub mod Rounding
pub mod Table
pub mod Integers
pub mod Literals

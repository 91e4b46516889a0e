pub mod Called
pub mod Counting
pub mod Digital
pub mod Typing

pub mod Built
pub mod Direct
pub mod States
pub mod Sum

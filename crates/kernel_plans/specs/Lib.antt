pub mod Trees
pub mod Tables
pub mod Classes
pub mod Called
pub mod Dots
pub mod Forms

mod Ring
mod Framing
mod Items
mod Shows
mod Runs
mod Names
mod Driven
mod Levels
mod Apart
mod Formed
mod Short
pub mod TextNames
mod Whole

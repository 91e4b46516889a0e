pub mod Uses
pub mod Reads
pub mod Renumbered

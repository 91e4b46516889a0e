pub mod Below
mod Answered
mod Bits
mod Regular
mod Rounds
mod Suffixes
mod Ticks

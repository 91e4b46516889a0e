mod Kept
mod Part
mod Ranges
mod Shown
mod Verdicts
mod Whole
mod Written

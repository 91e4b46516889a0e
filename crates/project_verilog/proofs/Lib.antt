mod Designs
mod Sums
mod Modules
mod Sizes
mod Whole

mod Lists
mod Ports
mod Names
mod Sizes
mod Whole

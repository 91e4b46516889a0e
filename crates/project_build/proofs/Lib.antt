pub mod Whole
pub mod Kernels
pub mod Refusals

pub mod Given
pub mod Planned
pub mod Fit
pub mod Operation
pub mod KernelArgs
pub mod Kept
pub mod Filling

pub mod Added
pub mod HasKernelPorts

pub mod KernelArgs
pub mod NumbersBefore
pub mod DigitBits
mod NextOperand
mod SignPairs
mod PlanSteps
mod HostPairs
pub mod OperationKept
pub mod ArraysKept
pub mod RowsKept
pub mod FillingTurns
pub mod RowsDone
pub mod CompoundSigns

pub mod CoveredLemmas
pub mod EdgeLemmas
mod KernelLemmas
pub mod LatencyLemmas
pub mod ProblemFacts
mod ProblemLemmas
pub mod ScheduleLemmas
mod ShownLemmas
pub mod SourceLemmas
mod WalkLemmas

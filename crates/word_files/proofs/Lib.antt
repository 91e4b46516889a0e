pub mod HexLemmas
pub mod PartLemmas
pub mod KeyLemmas
pub mod RefusalLemmas
pub mod AheadLemmas
pub mod LineLemmas
pub mod JudgeLemmas
pub mod DigitLemmas

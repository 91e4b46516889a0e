pub mod ItemLemmas
pub mod RowLemmas
pub mod GreatestLemmas
pub mod EntryLemmas

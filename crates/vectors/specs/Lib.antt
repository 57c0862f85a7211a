pub mod Entries
pub mod EntriesClocks
pub mod EntriesClocksLemmas
pub mod EntryLaws
pub mod Vectors
pub mod VectorsLemmas

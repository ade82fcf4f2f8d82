pub mod FilesLemmas
pub mod HeapLaws
pub mod EntryLaws
pub mod MemLaws
pub mod FailLemmas

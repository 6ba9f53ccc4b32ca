pub mod CountingLemmas
pub mod WritingLemmas

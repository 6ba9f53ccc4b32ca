pub mod CollectionLemmas
pub mod CheckResultLemmas

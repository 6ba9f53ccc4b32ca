pub mod CommandOfLemmas
pub mod FieldLemmas

pub mod OrderLemmas
pub mod AnswerLemmas
pub mod SessionLemmas
pub mod SourceLemmas
pub mod StableLemmas
pub mod PartsLemmas

pub mod BothLemmas
pub mod MeaningLemmas
pub mod OnceLemmas
pub mod PieceLemmas
pub mod OriginLemmas

pub mod WholeNumberLemmas
pub mod WrapperLemmas

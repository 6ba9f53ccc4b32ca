pub mod RequestLemmas
pub mod TokenLemmas

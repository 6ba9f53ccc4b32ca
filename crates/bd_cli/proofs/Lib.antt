pub mod RunsLemmas
pub mod ServeLemmas

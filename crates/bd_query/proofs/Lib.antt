pub mod EndTestLemmas
pub mod FilterMatchLemmas

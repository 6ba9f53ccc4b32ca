pub mod OptionsLemmas
pub mod BatchLemmas
pub mod FindLemmas
pub mod UniqueLemmas
pub mod PartsLemmas
pub mod AroundLemmas

pub mod IndexLemmas
pub mod BoundsLemmas
pub mod ExplainLemmas
pub mod CallLemmas
pub mod ServiceLemmas
pub mod PlacesLemmas
pub mod ServeLemmas
pub mod TypesLemmas

pub mod AlikeLemmas
pub mod EndLemmas
pub mod ExampleLemmas
pub mod FilterBoundsLemmas
pub mod KeyLemmas
pub mod SoundLemmas

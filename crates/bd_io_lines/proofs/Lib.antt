pub mod LinesLemmas
pub mod LineBufferLemmas
pub mod ServingLemmas

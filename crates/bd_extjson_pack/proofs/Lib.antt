pub mod BodyLemmas
pub mod CanonicalLemmas
pub mod LengthLemmas
pub mod PlainLemmas

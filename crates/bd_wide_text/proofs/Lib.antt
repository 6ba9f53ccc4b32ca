pub mod LimitedLemmas
pub mod LimitedTextLemmas
pub mod Decimal128Lemmas
pub mod DoubleLemmas
pub mod LayoutLemmas
pub mod PlainLemmas
pub mod ReadBackLemmas

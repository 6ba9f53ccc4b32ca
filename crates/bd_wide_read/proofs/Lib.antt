pub mod DecimalTextLemmas
pub mod DoubleLemmas
pub mod TenLemmas
pub mod DecimalLemmas
pub mod DateLemmas
pub mod UuidLemmas

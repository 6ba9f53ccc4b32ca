pub mod Fault
pub mod Filter
pub mod FilterBad
pub mod FilterMatch
pub mod FilterOf
pub mod NameKind
pub mod inside

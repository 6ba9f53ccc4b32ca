pub mod FilterBadLemmas
pub mod FilterOfLemmas
pub mod MembersLemmas

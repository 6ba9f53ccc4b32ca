pub mod DistinctLemmas
pub mod SortLemmas
pub mod KeyLemmas
pub mod ReachLemmas
pub mod PathWalkLemmas

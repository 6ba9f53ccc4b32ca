pub mod EntryLemmas
pub mod PlacesLemmas
pub mod RepeatLemmas
pub mod WalkLemmas

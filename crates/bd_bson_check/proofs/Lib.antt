pub mod DumpLemmas
pub mod CheckingLemmas
pub mod FirstFaultLemmas
pub mod ProfileLemmas
pub mod WideLemmas

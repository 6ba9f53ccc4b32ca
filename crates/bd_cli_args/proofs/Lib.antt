pub mod FaultLemmas
pub mod LineLemmas
pub mod ProgramLemmas
pub mod WideLineLemmas

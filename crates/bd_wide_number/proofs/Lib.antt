pub mod CodeLemmas
pub mod LawLemmas
pub mod OddLemmas
pub mod ValueLemmas

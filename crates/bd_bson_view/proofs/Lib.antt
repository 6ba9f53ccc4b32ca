pub mod ValueAtLemmas
pub mod ElementsLemmas
pub mod ContentsLemmas
pub mod SoundLemmas
pub mod VectorLemmas

pub mod AccessLemmas
pub mod CursorLemmas
pub mod SessionLemmas

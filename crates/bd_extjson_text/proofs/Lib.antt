pub mod ScalarLemmas
pub mod JsonStringLemmas
pub mod BufferLemmas
pub mod TextLemmas

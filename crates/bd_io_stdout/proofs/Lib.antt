pub mod OutputBufferLemmas

pub mod PackLemmas

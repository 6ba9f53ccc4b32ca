pub mod DevicesLemmas

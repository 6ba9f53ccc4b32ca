pub mod CheckLemmas
pub mod DumpLemmas
pub mod InputLemmas
pub mod OutputLemmas
pub mod ScanLemmas

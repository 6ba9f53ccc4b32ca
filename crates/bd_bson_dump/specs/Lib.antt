pub mod Collection
pub mod Starts
pub mod CheckResults

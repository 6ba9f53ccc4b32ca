pub mod Collected
pub mod Added
pub mod Starts
pub mod Copies

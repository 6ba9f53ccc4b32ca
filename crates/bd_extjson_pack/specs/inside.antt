pub mod Packable
pub mod Writes

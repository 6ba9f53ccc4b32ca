pub mod Output
pub mod Scan

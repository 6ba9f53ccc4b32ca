pub mod Refused
pub mod Request

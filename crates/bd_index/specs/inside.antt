pub mod Entries
pub mod IndexView
pub mod Places

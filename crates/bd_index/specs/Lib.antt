pub mod Entries
pub mod IndexView
pub mod Places
pub mod Walk
pub mod WalkRemaining
pub mod inside

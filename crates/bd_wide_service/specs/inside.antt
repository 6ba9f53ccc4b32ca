pub mod Call
pub mod ServiceView
pub mod Places

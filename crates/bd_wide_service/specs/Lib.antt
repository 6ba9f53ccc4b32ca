pub mod Call
pub mod Places
pub mod Reply
pub mod Serve
pub mod ServiceView
pub mod inside

pub mod Reply
pub mod ServiceView
pub mod Talk
pub mod inside

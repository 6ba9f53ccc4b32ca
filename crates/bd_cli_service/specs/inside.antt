pub mod Reply
pub mod ServiceView

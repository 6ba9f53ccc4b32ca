pub mod Load
pub mod Pack
pub mod inside

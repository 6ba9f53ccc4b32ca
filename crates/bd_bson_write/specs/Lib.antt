pub mod TreeBytes
pub mod inside

pub mod Selection
pub mod inside

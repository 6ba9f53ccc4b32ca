pub mod Find
pub mod Options
pub mod inside

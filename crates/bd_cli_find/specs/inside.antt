pub mod Find
pub mod Options

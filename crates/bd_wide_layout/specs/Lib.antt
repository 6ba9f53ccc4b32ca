pub mod Layout
pub mod Options
pub mod inside

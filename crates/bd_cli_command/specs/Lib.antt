pub mod Command
pub mod CommandOf
pub mod Field
pub mod inside

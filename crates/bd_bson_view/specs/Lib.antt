pub mod Raw
pub mod Sizes
pub mod Sound
pub mod Spelling
pub mod Unique
pub mod inside

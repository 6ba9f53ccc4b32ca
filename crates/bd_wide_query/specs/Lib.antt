pub mod Coded
pub mod Nan
pub mod Split
pub mod Tagged
pub mod Types
pub mod inside

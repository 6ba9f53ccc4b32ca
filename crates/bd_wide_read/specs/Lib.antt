pub mod DateText
pub mod DecimalText
pub mod DoubleText
pub mod JsonNumber
pub mod inside

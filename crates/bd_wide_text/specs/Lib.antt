pub mod BiasedText
pub mod Decimal128
pub mod Double
pub mod Layout
pub mod inside

pub mod Code
pub mod Decimal128
pub mod Value
pub mod inside

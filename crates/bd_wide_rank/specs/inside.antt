pub mod Compare
pub mod Key
pub mod Limbs
pub mod Position
pub mod Rows
pub mod Shape
pub mod Size

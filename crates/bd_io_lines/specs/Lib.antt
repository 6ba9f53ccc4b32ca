pub mod Lines
pub mod LineBuffer
pub mod Serving
pub mod inside

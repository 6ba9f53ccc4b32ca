pub mod LineBuffer

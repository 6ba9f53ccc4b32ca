pub mod OutputBuffer

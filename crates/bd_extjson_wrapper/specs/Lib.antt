pub mod WholeNumber
pub mod Wrapper

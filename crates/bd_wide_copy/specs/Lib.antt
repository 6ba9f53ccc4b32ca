pub mod Classes
pub mod Copy
pub mod Numbers
pub mod Starts
pub mod Dump
pub mod inside

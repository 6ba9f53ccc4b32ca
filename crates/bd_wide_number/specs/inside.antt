pub mod Odd

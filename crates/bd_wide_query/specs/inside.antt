pub mod Coding
pub mod Read
pub mod Role

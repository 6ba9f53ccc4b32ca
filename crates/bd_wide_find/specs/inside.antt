pub mod Fault
pub mod Question

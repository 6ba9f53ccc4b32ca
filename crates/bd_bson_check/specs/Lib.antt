pub mod Dump
pub mod Fault
pub mod FirstFault
pub mod inside

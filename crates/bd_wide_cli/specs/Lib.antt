pub mod Command
pub mod Dump
pub mod Output
pub mod Pack
pub mod Plain

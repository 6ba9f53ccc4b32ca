pub mod Check
pub mod Dump
pub mod Input
pub mod Output
pub mod Run
pub mod inside

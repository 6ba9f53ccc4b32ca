pub mod Coded
pub mod Find
pub mod Load
pub mod Options
pub mod Printer
pub mod inside

pub mod Fault
pub mod Indexes

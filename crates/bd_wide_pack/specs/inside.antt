pub mod CanonicalLine
pub mod Mixed
pub mod Outcome
pub mod Printed

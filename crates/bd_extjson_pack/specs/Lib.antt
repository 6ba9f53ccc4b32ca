pub mod Canonical
pub mod Packable
pub mod inside

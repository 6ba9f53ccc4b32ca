pub mod Both
pub mod Made
pub mod Reported
pub mod Substitutes
pub mod inside

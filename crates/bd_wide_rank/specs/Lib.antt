pub mod Key
pub mod Rank
pub mod Rows
pub mod Table
pub mod Worth
pub mod inside

pub mod Key
pub mod Path
pub mod PathNames
pub mod PathWalk
pub mod Reach
pub mod Sort
pub mod inside

pub mod Key
pub mod PathWalk
pub mod Sort

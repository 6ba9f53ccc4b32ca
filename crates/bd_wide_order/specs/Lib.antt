pub mod Pages
pub mod Query
pub mod Ranks
pub mod Renumber

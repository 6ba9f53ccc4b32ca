pub mod Ranking
pub mod Sorting

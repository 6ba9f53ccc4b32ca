pub mod Query
pub mod Usage
pub mod Words

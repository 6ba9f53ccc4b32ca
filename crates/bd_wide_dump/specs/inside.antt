pub mod Begins
pub mod Finds
pub mod Indents
pub mod Projects
pub mod Tokens

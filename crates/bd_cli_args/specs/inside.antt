pub mod CommandLine
pub mod FileCommands

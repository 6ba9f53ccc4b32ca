pub mod CommandLine
pub mod FileCommands
pub mod FindOptions
pub mod LayoutOptions
pub mod WideLine
pub mod inside

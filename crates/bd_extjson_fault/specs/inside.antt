pub mod JsonSyntax
pub mod SecondPass

pub mod FaultOffset
pub mod JsonFault
pub mod JsonSyntax
pub mod TextFault
pub mod TreeFault
pub mod inside

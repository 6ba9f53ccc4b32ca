pub mod Filled
pub mod RoundTrip
pub mod SameValues
pub mod WideLine
pub mod Written
pub mod inside

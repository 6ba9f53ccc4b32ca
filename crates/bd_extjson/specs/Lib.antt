pub mod Laws
pub mod Read
pub mod inside

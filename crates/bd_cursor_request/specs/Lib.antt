pub mod Refused
pub mod Request
pub mod Results
pub mod Token
pub mod inside

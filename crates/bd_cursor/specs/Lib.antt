pub mod Access
pub mod Explanation
pub mod SessionView
pub mod inside

pub mod Access
pub mod SessionView

pub mod Outcome
pub mod Number

pub mod Whole
pub mod Number

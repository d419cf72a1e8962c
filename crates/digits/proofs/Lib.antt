pub mod Values
pub mod Puts

pub mod Floats
pub mod Digits
pub mod Held
pub mod Rounded
pub mod Turned

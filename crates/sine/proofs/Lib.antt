pub mod Terms
pub mod Entries
pub mod Lines
pub mod Sines
pub mod Worked

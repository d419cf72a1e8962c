pub mod Judged
pub mod Sides
pub mod Sexagesimals

pub mod Angle
pub mod Sexagesimal

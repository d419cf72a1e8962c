pub mod Series
pub mod Table
pub mod Sine

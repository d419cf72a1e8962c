pub mod Longitude
pub mod Forward
pub mod Inverse
pub mod Refusal
pub mod Answer

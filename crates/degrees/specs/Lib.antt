pub mod Writing
pub mod Refusal
pub mod Answer

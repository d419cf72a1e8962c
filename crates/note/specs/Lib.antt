pub mod Note
pub mod Refusal
pub mod Answer

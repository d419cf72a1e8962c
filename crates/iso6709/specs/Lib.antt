pub mod Part
pub mod Numbers
pub mod Refusal
pub mod Answer

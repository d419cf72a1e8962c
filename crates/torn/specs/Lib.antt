pub mod Parts
pub mod Pieces
pub mod Refusal
pub mod Answer
pub mod Inside

pub mod Record
pub mod Records
pub mod Refusal
pub mod Answer
pub mod Form

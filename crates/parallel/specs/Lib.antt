pub mod Table
pub mod Parallel
pub mod Latitude
pub mod Refusal
pub mod Kind
pub mod Answer
pub mod Columns

pub mod Run
pub mod Step
pub mod Inside

pub mod Job
pub mod Inside

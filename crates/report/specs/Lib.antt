pub mod Block
pub mod Program

pub mod Turns
pub mod Said
pub mod Known
pub mod Moved
pub mod Passing

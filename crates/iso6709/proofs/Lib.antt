pub mod Numbers
pub mod Parts
pub mod Returning
pub mod Words

pub mod Judged
pub mod Numbers
pub mod Written

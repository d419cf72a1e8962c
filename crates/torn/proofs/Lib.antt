pub mod Readings
pub mod Pieces
pub mod Turns
pub mod Answers
pub mod Sizes
pub mod Laws
pub mod Listed

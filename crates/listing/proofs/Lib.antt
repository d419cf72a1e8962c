pub mod Lists
pub mod Turns
pub mod Pieces

pub mod Orders
pub mod Stored

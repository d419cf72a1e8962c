pub mod Orders
pub mod Records
pub mod Stored

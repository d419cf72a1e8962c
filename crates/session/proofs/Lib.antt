pub mod Orders
pub mod Histories
pub mod Handovers

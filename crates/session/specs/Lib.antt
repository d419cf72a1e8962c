pub mod Session
pub mod Handover
pub mod History

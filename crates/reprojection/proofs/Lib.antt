pub mod Places
pub mod Kept
pub mod Runs

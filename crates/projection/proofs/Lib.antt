pub mod Longitudes
pub mod Places
pub mod Found
pub mod Orders
pub mod Judged

pub mod Jobs
pub mod Works

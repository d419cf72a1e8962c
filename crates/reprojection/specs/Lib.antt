pub mod Retired
pub mod Inside
pub mod Reprojected
pub mod All

pub mod Products
pub mod Rounding
pub mod Scales
pub mod Squares
pub mod Digits
pub mod Tests
pub mod Everywhere
pub mod Signs

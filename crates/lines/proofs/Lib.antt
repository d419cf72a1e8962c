pub mod Decimals
pub mod Buffers

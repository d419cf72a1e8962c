pub mod Blocks
pub mod Streams

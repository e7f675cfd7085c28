pub mod Words
pub mod Blocks
pub mod Put
pub mod Reading

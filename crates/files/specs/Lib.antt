pub mod Asked
pub mod Counting
pub mod Feeding

pub mod Shape
pub mod Determined
pub mod Plain

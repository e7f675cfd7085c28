pub mod Classes
pub mod Kinds
pub mod Information
pub mod Counts

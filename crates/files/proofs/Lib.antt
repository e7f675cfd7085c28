pub mod Counts
pub mod Kept
pub mod Whole
pub mod Determined
pub mod Taking

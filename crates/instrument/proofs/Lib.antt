pub mod Seek
pub mod Ranges
pub mod Kept
pub mod Which
pub mod Determined

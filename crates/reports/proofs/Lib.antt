pub mod Words
pub mod Standing
pub mod Enough
pub mod Example
pub mod Fits
pub mod Determined

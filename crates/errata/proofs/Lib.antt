pub mod Edits
pub mod Carets
pub mod Telling
pub mod Enough
pub mod Example
pub mod Fits
pub mod Determined

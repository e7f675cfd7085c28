pub mod Edits
pub mod Mending
pub mod Outcome
pub mod Telling
pub mod Keeping
pub mod Kept

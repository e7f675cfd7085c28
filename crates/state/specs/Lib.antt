pub mod Entries
pub mod Keeping
pub mod Image

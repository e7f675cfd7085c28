pub mod Rows
pub mod Settings
pub mod Values

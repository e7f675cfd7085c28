pub mod Errata
pub mod Keeping

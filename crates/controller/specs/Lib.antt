pub mod Given
pub mod Gotten

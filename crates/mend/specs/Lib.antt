pub mod Lines
pub mod Turns
pub mod Put
pub mod Mending
pub mod Laws

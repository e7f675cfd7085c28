pub mod Turning
pub mod Put
pub mod Lines
pub mod Laws

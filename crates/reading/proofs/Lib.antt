pub mod Turning
pub mod Kept
pub mod Printed
pub mod Laws

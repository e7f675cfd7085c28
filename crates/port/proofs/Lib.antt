pub mod Hearing
pub mod Alike
pub mod Heard
pub mod Said
pub mod Determined

pub mod Readings
pub mod Levels
pub mod Noughts
pub mod Told
pub mod Mended
pub mod Remembered

pub mod Readings
pub mod Noughts
pub mod Told
pub mod Mended
pub mod Remembered
pub mod Alike

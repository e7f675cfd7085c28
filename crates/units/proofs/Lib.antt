pub mod ThreeDigits
pub mod Levels
pub mod Positions
pub mod Heads
pub mod Sexagesimal
pub mod Determined

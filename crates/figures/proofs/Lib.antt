pub mod Bytes
pub mod Decimal
pub mod Places
pub mod Putting
pub mod Shown
pub mod Tests
pub mod Determined

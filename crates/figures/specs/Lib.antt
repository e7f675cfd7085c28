pub mod Text
pub mod Bytes
pub mod Decimal
pub mod Rooms
pub mod Promises
pub mod Pointing

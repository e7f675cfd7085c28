pub mod Pieces
pub mod Determined
pub mod Fed

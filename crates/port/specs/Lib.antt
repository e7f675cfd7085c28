pub mod Port
pub mod Why

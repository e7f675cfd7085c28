pub mod Verdicts
pub mod Orders
pub mod Replies
pub mod Machine
pub mod Sessions
pub mod Demand
pub mod Keeping

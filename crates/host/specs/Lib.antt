pub mod Answers
pub mod Machine

pub mod Answers
pub mod Judging
pub mod Composing
pub mod Lists
pub mod Rules
pub mod Keeping

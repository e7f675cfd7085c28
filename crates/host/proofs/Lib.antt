pub mod Told
pub mod Whole
pub mod Refused
pub mod RoundTrips
pub mod MendRead
pub mod Answered
pub mod Left
pub mod Determined

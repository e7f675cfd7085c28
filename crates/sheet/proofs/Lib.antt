pub mod Printing
pub mod Written

pub mod Turns
pub mod Printed
pub mod Printing
pub mod Laws

pub mod Printing
pub mod Digits

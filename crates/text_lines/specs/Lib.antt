pub mod Printed
pub mod Hex

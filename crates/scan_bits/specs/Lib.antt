pub mod Words
pub mod Registers
pub mod BitLists
pub mod Rows
pub mod Storage

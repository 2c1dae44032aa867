pub mod Boards
pub mod Setups
pub mod Loads

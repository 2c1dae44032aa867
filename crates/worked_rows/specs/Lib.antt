pub mod Inputs
pub mod Settings
pub mod Shown
pub mod Pipes
pub mod Replays
pub mod Rows

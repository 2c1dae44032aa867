pub mod Seats
pub mod Turns
pub mod Runs
pub mod Alone

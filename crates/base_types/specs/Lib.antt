pub mod Calls
pub mod Counts
pub mod Tellings
pub mod Texts

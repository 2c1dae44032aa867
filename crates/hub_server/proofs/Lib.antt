pub mod Finding
pub mod Going
pub mod Ports
pub mod Telling

pub mod Keys
pub mod Documents
pub mod Format
pub mod Laws
pub mod Refusals

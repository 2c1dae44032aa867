pub mod Waiting
pub mod Tokens

pub mod Walks
pub mod ReadOuts

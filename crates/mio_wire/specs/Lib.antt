pub mod Doors
pub mod Polls
pub mod Results
pub mod Tables

pub mod Groups
pub mod Sums
pub mod Shapes
pub mod FaultLaws
pub mod Places
pub mod Ports
pub mod Ones

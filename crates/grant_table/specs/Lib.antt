pub mod Layouts
pub mod Faults
pub mod Apart
pub mod Kept
pub mod Refusals

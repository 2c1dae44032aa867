pub mod Tables
pub mod Shown
pub mod AtDesk
pub mod Going
pub mod Fits

pub mod Runs
pub mod ShiftLaws

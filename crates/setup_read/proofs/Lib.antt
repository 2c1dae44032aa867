pub mod BoardLaws
pub mod LoadLaws

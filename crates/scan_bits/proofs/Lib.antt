pub mod Queue
pub mod WordLaws
pub mod RowLaws
pub mod WordParts
pub mod RowWords
pub mod Windows
pub mod Held
pub mod ByteLaws

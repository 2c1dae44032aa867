pub mod KeyLaws
pub mod DocumentLaws
pub mod Chains
pub mod Values
pub mod Formats
pub mod WrongValues
pub mod WrongTables

pub mod CapitalLanes
pub mod CountLaws
pub mod TellingLaws
pub mod TextLaws

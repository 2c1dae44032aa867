pub mod Filling
pub mod DeviceTypes

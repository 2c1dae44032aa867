pub mod Views
pub mod MemPorts
pub mod Streams
pub mod Shelves

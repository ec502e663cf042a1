pub mod Libraries
pub mod Searching
pub mod Flags

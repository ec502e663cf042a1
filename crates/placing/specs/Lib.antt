pub mod Passes
pub mod Effects
pub mod Walks

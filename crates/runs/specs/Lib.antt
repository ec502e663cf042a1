pub mod Runs
pub mod Modes

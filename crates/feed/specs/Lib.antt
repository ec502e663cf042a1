pub mod Layout
pub mod Held
pub mod Promise
pub mod Sequence

pub mod Layout
pub mod Good
pub mod Table
pub mod Words
pub mod Promise
pub mod Sequence

pub mod Tables
pub mod Cells
pub mod Heads
pub mod Iter

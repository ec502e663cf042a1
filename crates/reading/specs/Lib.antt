pub mod TwoTables
pub mod Filling
pub mod Lines

pub mod Scan
pub mod LineEnds
pub mod FieldBounds
pub mod Values
pub mod Digits

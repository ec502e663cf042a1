pub mod Fields
pub mod Fitting

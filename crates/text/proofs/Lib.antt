-- Laws that the proofs here and those of the crates above cite.
pub mod ScanLaws
pub mod LineLaws
pub mod FieldLaws
pub mod MarkerLaws
pub mod NumberLaws
pub mod NameLaws

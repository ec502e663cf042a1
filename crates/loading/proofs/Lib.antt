pub mod CellLaws
pub mod LoadingLaws
pub mod LoadDemand

pub mod PartLaws
pub mod EndLaws

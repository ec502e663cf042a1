pub mod ModuleLaws
pub mod GrowthLaws
pub mod CandidateLaws
pub mod VisitLaws
pub mod SweepLaws
pub mod SeekLaws

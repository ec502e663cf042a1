pub mod LastLaws
pub mod SeekLaws
pub mod EnterLaws
pub mod FillLaws
pub mod PathLaws

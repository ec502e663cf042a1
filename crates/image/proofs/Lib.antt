pub mod OutputLaws
pub mod RecordLaws
pub mod WriteLaws

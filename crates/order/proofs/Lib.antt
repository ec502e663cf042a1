pub mod InsertLaws
pub mod OrderedLaws

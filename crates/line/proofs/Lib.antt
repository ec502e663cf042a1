-- Laws that the proofs here and those of the crates above cite.
pub mod FieldLaws
pub mod FitLaws
pub mod PeekLaws
pub mod RecordLaws
pub mod NamedLaws
pub mod AnswerLaws

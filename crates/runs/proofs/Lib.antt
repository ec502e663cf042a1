pub mod StretchLaws
pub mod SpelledLaws
pub mod AnswerLaws
pub mod LineReadLaws
pub mod CaseLaws
pub mod ModeLaws

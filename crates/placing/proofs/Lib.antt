pub mod ReasonLaws
pub mod PassLaws
pub mod WordLaws
pub mod EntryLaws
pub mod MentionLaws
pub mod LinkLaws
pub mod PlaceLaws
pub mod PlacedLaws

pub mod PackLaws
pub mod FeedLaws
pub mod HeldLaws
pub mod StoreLaws
pub mod Claims

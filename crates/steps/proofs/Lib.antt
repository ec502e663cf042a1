-- Laws of the file's end. No proof here cites them; docs/PORT.md names two.
pub mod EndLaws

-- Laws that the proofs here cite.
pub mod LentLaws

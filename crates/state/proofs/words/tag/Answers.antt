use Rattle.state.proofs.WordLaws.{tagged_unplaced, tagged_plain, tagged_refers}
use native.Mathlib.Omega.{arith}
use Rattle.state.proofs.words.tag.Goals as goal

pub returns-in-0 : goal.returns-in-0
returns-in-0 c = tagged_unplaced c.requires.good _ c.requires.address_lt_program_words c.in-0.is

pub returns-in-1 : goal.returns-in-1
returns-in-1 c = tagged_plain c.requires.good _ c.requires.address_lt_program_words c.in-1.is

pub returns-in_default : goal.returns-in_default
returns-in_default c = tagged_refers c.requires.good _ c.requires.address_lt_program_words (omega arith) (omega arith)

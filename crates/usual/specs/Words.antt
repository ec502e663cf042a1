-- What is promised of a line that is read in one pass.
use Rattle.std.specs.Prelude.{ℕ, ◌+◌, ◌<◌, Bool, cond, ◌||◌, List, ◌≡◌, length, get_or, eqb, ltb}
use Rattle.rules.specs.Text.{LF, CR, space}
use Rattle.rules.specs.Line.{code_word, line_answer}
use Rattle.rules.specs.declared.line.Expected.{Expected}
use Rattle.rules.specs.declared.line.LineAnswer.TheVariants.{Code}
use Rattle.rules.specs.declared.line.Relocation.TheVariants.{Plain}
use Rattle.text.specs.Scan.{part}
use Rattle.text.specs.LineEnds.{NextLine}
use Rattle.text.specs.declared.lines.LineSpan.{LineSpan}
use Rattle.usual.specs.declared.UsualWord.{UsualWord}

-- what may stand behind quarter k: a space, or behind the last an LF or a CR
unfoldable pub parts : ℕ → ℕ → Bool
parts k b = cond (ltb k 3) (eqb b space) (eqb b LF || eqb b CR)

-- a line whose last byte stands before `end`: an LF follows there, or another byte and then the LF
pub data Ending (file : List ℕ) (end next : ℕ) : Type 0 where
  by_LF : get_or file end 0 ≡ LF → next ≡ end + 1 → Ending file end next
  by_two : (get_or file end 0 ≡ LF → ⊥) → end + 1 < length file → get_or file (end + 1) 0 ≡ LF → next ≡ end + 2 → Ending file end next

-- the line at `at` says this word, and the next one starts at next
pub record WordRead (expected : Expected) (at : ℕ) (file : List ℕ) (r : UsualWord) : Type 0 where
  pub span : LineSpan
  pub line : NextLine at file span
  pub follows : span.next ≡ r.next
  pub says : Code (code_word r.text Plain) ≡ line_answer expected (part at span.stop file)

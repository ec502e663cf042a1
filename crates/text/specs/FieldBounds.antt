-- Where the next field of a line lies in the file.
use Rattle.std.specs.Prelude.{ℕ, ◌+◌, ◌-◌, Bool, cond, List, [], ◌∷◌, ◌≡◌, length, eqb}
use Rattle.std.specs.Borrow.{Bor}
use Rattle.rules.specs.Text.{Field, fields_from, space}
use Rattle.text.specs.Scan.{part, past, is_not}

abbrev pub is_space : ℕ → Bool
is_space b = eqb b space

-- where the next field starts: at the first byte that is no space, or where the line stops
unfoldable pub field_start : ℕ → ℕ → List ℕ → ℕ
field_start at stop file = past is_space at stop file

-- where the next field stops: at the next space, or where the line stops
unfoldable pub field_stop : ℕ → ℕ → List ℕ → ℕ
field_stop at stop file = past (is_not space) (field_start at stop file) stop file

-- the fields of a text that begins with f, or has none where f has no byte
unfoldable pub first : Field → List Field → List Field
first f others = cond (eqb (length f.text) 0) [] (f ∷ others)

-- where a reference points, n bytes on
abbrev pub onward : ℕ → ℕ × ℕ → ℕ × ℕ
onward n position = (position.0, n + position.1)

-- r is the next field of the line from `at` to stop: it has those bytes of the file, at that position, and the others follow it
pub record NextField (at stop : ℕ) (file r : Bor (List ℕ)) : Type 0 where
  pub bytes : r.now ≡ part (field_start at stop file.now) (field_stop at stop file.now) file.now
  pub position : r.ref_ptr ≡ onward (field_start at stop file.now) file.ref_ptr
  pub fields : (c : ℕ) →
      fields_from c (part at stop file.now)
      ≡ first
      (record { column = c + (field_start at stop file.now - at); text = r.now })
      (fields_from (c + (field_stop at stop file.now - at)) (part (field_stop at stop file.now) stop file.now))

-- r is a part of the file itself: it has the bytes between two of its positions, and lies where they lie
pub record PartOf (file r : Bor (List ℕ)) : Type 0 where
  pub from : ℕ
  pub to : ℕ
  pub bytes : r.now ≡ part from to file.now
  pub position : r.ref_ptr ≡ onward from file.ref_ptr

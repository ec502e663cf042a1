-- The end of a file: inside a module or a section, before a record, and at rest.
use Prim.Native.Nat.{ℕ}
use mathlib.Core.Bool.{Bool, true, false, not, cond, ◌&&◌, ◌||◌, and-false, or-true}
use mathlib.Core.Path.{◌≡◌, refl, ap, ap₂, ◌∙◌}
use Rattle.rules.specs.Reading.{is_header, at_end, Complete, Stopped}
use Rattle.rules.specs.declared.line.Expected.{Expected}
use Rattle.rules.specs.declared.line.Expected.TheVariants.{AnyHeader, OpeningTitle, ClosingTitle, CodeRecord, EntryRecord, ExternalRecord, DataRecord, InitRecord, ParameterRecord, SubRecord}
use Rattle.rules.specs.declared.reading.Mode.{Mode}

-- a choice, once its test is known
pub if_true : {A : Type 0} {t : Bool} {r a : A} (b : A) → t ≡ true → r ≡ a → r ≡ cond t a b
if_true b e h = rw e h

pub if_false : {A : Type 0} {t : Bool} {r b : A} (a : A) → t ≡ false → r ≡ b → r ≡ cond t a b
if_false a e h = rw e h

not_header_lem : (w : Expected) → (w ≡ AnyHeader → ⊥) → is_header w ≡ false
unfolding is_header
not_header_lem AnyHeader h = absurd (h refl)
not_header_lem OpeningTitle h = refl
not_header_lem ClosingTitle h = refl
not_header_lem CodeRecord h = refl
not_header_lem EntryRecord h = refl
not_header_lem ExternalRecord h = refl
not_header_lem DataRecord h = refl
not_header_lem InitRecord h = refl
not_header_lem ParameterRecord h = refl
not_header_lem SubRecord h = refl

module _ (n : ℕ) (m : Mode) where
  -- the file ends inside something
  cut :
      (t : Bool) → is_header m.expected ≡ t → (u : Bool) → (m.object.inside || m.section.inside) ≡ u
      → (t && not u) ≡ false → Stopped 7 n 0 ≡ at_end n m
  unfolding at_end
  cut t e u f h = if_false _ (ap₂ ◌&&◌ e (ap not f) ∙ h) refl

  pub cut_in_module : m.object.inside ≡ true → Stopped 7 n 0 ≡ at_end n m
  cut_in_module e = cut _ refl true (ap (λ (t : Bool). t || m.section.inside) e) (and-false (is_header m.expected))

  pub cut_in_section : m.section.inside ≡ true → Stopped 7 n 0 ≡ at_end n m
  cut_in_section e =
      cut _ refl true (ap (◌||◌ m.object.inside) e ∙ or-true m.object.inside) (and-false (is_header m.expected))

  pub cut_before_record : (m.expected ≡ AnyHeader → ⊥) → Stopped 7 n 0 ≡ at_end n m
  cut_before_record h = cut false (not_header_lem m.expected h) _ refl refl

  pub complete : m.object.inside ≡ false → m.section.inside ≡ false → m.expected ≡ AnyHeader → Complete ≡ at_end n m
  unfolding at_end is_header
  complete e f h = if_true _ (ap₂ ◌&&◌ (ap is_header h) (ap₂ (λ (t u : Bool). not (t || u)) e f)) refl

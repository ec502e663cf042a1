-- What is read of the fields of a line, as the rules have it.
use Rattle.std.specs.Prelude.{ℕ, zero, suc, ◌+◌, ◌-◌, List, [], ◌∷◌, ◌++◌, ◌≡◌, length, get_or, Result, Ok, Err}
use Rattle.std.proofs.Math.Option.{Option, none, some}
use Rattle.rules.specs.Text.{Field, fields_of}
use Rattle.rules.specs.Line.{Fitted, fits, misfit, fit, Shape, read_as, nth}
use Rattle.rules.specs.declared.line.Fault.{Fault}
use Rattle.rules.specs.declared.line.Kind.{Kind}
use Rattle.rules.specs.declared.line.Kind.TheVariants.{Name, Anything}
use Rattle.rules.specs.declared.line.LineAnswer.{LineAnswer}
use Rattle.rules.specs.declared.line.LineAnswer.TheVariants.{Bad}
use Rattle.text.specs.Scan.{part}
use Rattle.line.specs.Fields.{value_as}
use Rattle.line.specs.declared.fitting.FieldsRead.{FieldsRead}

-- the values of the first k fields of a line, of which these numbers and these names were read
unfoldable pub values_of : ℕ → List Kind → List ℕ → List ℕ → List ℕ
values_of zero ks numbers names = []
values_of (suc k) ks numbers names =
    values_of k ks numbers names ++ (value_as (get_or ks k Anything) (nth numbers k) (nth names k) ∷ [])

-- the answer of `fit`
abbrev pub as_fitted : List Kind → Result FieldsRead Fault → Fitted
as_fitted ks (Ok r) = fits (values_of (length ks) ks r.numbers r.names)
as_fitted ks (Err f) = misfit f

-- what a line says, by the answer of a function that tells a fault apart: the rules count one among the answers
abbrev pub said_as : {T : Type 0} → (T → LineAnswer) → Result T Fault → LineAnswer
said_as says (Ok x) = says x
said_as says (Err f) = Bad f

-- what a line with a field says, read as one of a shape; no shape is a fault of its first field
unfoldable pub shape_said : Option Shape → Fault → ℕ → List Field → LineAnswer
shape_said none unknown end fs = Bad unknown
shape_said (some s) unknown end fs = read_as s end fs

-- the line's fields are a name alone, or have a fault
abbrev pub name_said : ℕ → List Field → Result ℕ Fault → Type 0
name_said end fs (Ok n) = fits (n ∷ []) ≡ fit end (Name ∷ []) fs
name_said end fs (Err f) = misfit f ≡ fit end (Name ∷ []) fs

-- the fields of the line from `at` to stop of a file, and the column behind its last byte
abbrev pub line_fields : ℕ → ℕ → List ℕ → List Field
line_fields at stop file = fields_of (part at stop file)

abbrev pub end_column : ℕ → ℕ → ℕ
end_column at stop = stop - at + 1

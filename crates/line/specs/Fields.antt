-- A field of a line, read where it stands. A line is the text l, and its fields are asked for from position i on.
use Rattle.std.specs.Prelude.{ℕ, ◌+◌, ◌≤◌, ◌<◌, List, ◌≡◌, length, Result, Ok, Err}
use Rattle.rules.specs.Line.{Held, value, wrong, read_field, fault}
use Rattle.rules.specs.declared.line.Fault.{Fault}
use Rattle.rules.specs.declared.line.FaultKind.{FaultKind}
use Rattle.rules.specs.declared.line.FaultKind.TheVariants.{FieldCount}
use Rattle.rules.specs.declared.line.Kind.{Kind}
use Rattle.rules.specs.declared.line.Kind.TheVariants.{Number, Name, Anything, Marker}
use Rattle.text.specs.FieldBounds.{field_start}
use Rattle.text.specs.Digits.{field_text}
use Rattle.line.specs.declared.fields.FieldFrom.{FieldFrom}
use Rattle.line.specs.declared.fields.Value.{Value}

-- the answer of `within`
abbrev pub held_in : Result ℕ FaultKind → Held
held_in (Ok v) = value v
held_in (Err j) = wrong j

-- the value of a field of that kind, of which this number and this name were read
abbrev pub value_as : Kind → ℕ → ℕ → ℕ
value_as (Number low high j) number name = number
value_as Name number name = name
value_as Anything number name = 0
value_as (Marker c) number name = 0

abbrev pub value_in_field : Kind → Value → ℕ
value_in_field k v = value_as k v.number v.name

-- the answer of `read_field`
abbrev pub as_held : Kind → Result Value FaultKind → Held
as_held k (Ok v) = value (value_in_field k v)
as_held k (Err j) = wrong j

-- the next field starts at s
pub record StartsAt (i : ℕ) (l : List ℕ) (s : ℕ) : Type 0 where
  pub found : s ≡ field_start i (length l) l
  pub inside : s < length l

-- there is none
pub record NoField (i : ℕ) (l : List ℕ) (f : Fault) : Type 0 where
  pub found : field_start i (length l) l ≡ length l
  pub told : f ≡ fault FieldCount (length l + 1)

abbrev pub Starts : ℕ → List ℕ → Result ℕ Fault → Type 0
Starts i l (Ok s) = StartsAt i l s
Starts i l (Err f) = NoField i l f

-- none is wanted
pub record FieldLeft (i : ℕ) (l : List ℕ) (f : Fault) : Type 0 where
  pub start : ℕ
  pub starts : StartsAt i l start
  pub told : f ≡ fault FieldCount (start + 1)

abbrev pub Ends : ℕ → List ℕ → Result Unit Fault → Type 0
Ends i l (Ok u) = field_start i (length l) l ≡ length l
Ends i l (Err f) = FieldLeft i l f

-- the next field is of kind k, with value v, and ends at e
pub record FieldAs (k : Kind) (i : ℕ) (l : List ℕ) (v e : ℕ) : Type 0 where
  pub start : ℕ
  pub starts : StartsAt i l start
  pub reads : value v ≡ read_field k (field_text start (length l) l)
  pub ends : e ≡ start + length (field_text start (length l) l)
  pub most : e ≤ length l

-- it is not of that kind
pub record FieldDiffers (k : Kind) (i : ℕ) (l : List ℕ) (f : Fault) : Type 0 where
  pub start : ℕ
  pub starts : StartsAt i l start
  pub reads : wrong f.kind ≡ read_field k (field_text start (length l) l)
  pub column : f.column ≡ start + 1

pub data FieldWrong (k : Kind) (i : ℕ) (l : List ℕ) (f : Fault) : Type 0 where
  missing : NoField i l f → FieldWrong k i l f
  differs : FieldDiffers k i l f → FieldWrong k i l f

abbrev pub Reads : {T : Type 0} → (T → ℕ) → Kind → ℕ → List ℕ → Result (FieldFrom T) Fault → Type 0
Reads number k i l (Ok f) = FieldAs k i l (number f.value) f.end
Reads number k i l (Err f) = FieldWrong k i l f

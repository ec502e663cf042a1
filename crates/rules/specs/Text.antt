-- Document 01, "The lines" and "Numbers that bound it": lines, fields, numbers and names, over lists of bytes.
use Rattle.std.specs.Prelude.{ℕ, zero, suc, ◌+◌, ◌-◌, ◌*◌, ◌/◌, ◌%◌, ◌^◌, Bool, true, false, cond, not, ◌&&◌, ◌||◌, List, [], ◌∷◌, map, length, get_or, eqb, leb}
use Prim.Native.Char.{code}
use Prim.Native.String.{String, [] as none_left, ◌∷◌ as ◌then◌}
use Rattle.std.proofs.Math.Option.{Option, none, some}
use Rattle.rules.specs.Limits.{most_digits, largest_number, longest_name}

-- a quoted text as bytes
unfoldable pub bytes : String → List ℕ
bytes none_left = []
bytes (c then s) = code c ∷ bytes s

abbrev pub LF : ℕ
LF = 10

abbrev pub CR : ℕ
CR = 13

abbrev pub space : ℕ
space = 32

abbrev pub between : ℕ → ℕ → ℕ → Bool
between low high n = leb low n && leb n high

unfoldable pub all {ℓ} : {A : Type ℓ} → (A → Bool) → List A → Bool
all p [] = true
all p (x ∷ xs) = p x && all p xs

unfoldable pub any {ℓ} : {A : Type ℓ} → (A → Bool) → List A → Bool
any p [] = false
any p (x ∷ xs) = p x || any p xs

-- ---- lines

-- a byte in front of the first line
unfoldable pub widen_line : ℕ → List (List ℕ) → List (List ℕ)
widen_line b [] = (b ∷ []) ∷ []
widen_line b (l ∷ ls) = (b ∷ l) ∷ ls

-- "Lines end in LF [..] the last line may lack LF. [..] nothing after a final LF is a line.": a text cut behind each LF
unfoldable pub cut_lines : List ℕ → List (List ℕ)
cut_lines [] = []
cut_lines (b ∷ rest) = let more = cut_lines rest in cond (eqb b LF) ((b ∷ []) ∷ more) (widen_line b more)

unfoldable pub same_text : List ℕ → List ℕ → Bool
same_text [] [] = true
same_text [] (c ∷ cs) = false
same_text (b ∷ bs) [] = false
same_text (b ∷ bs) (c ∷ cs) = eqb b c && same_text bs cs

-- is this the end of a line: "one CR just before it is dropped"
abbrev pub is_line_end : List ℕ → Bool
is_line_end l = same_text l (LF ∷ []) || same_text l (CR ∷ LF ∷ [])

-- a line without its end
unfoldable pub without_end : List ℕ → List ℕ
without_end [] = []
without_end (b ∷ rest) = let more = without_end rest in cond (is_line_end (b ∷ rest)) [] (b ∷ more)

-- the lines of a file, without their ends
unfoldable pub lines_of : List ℕ → List (List ℕ)
lines_of file = map without_end (cut_lines file)

-- "Other bytes are 32 to 126."
abbrev pub is_legal : ℕ → Bool
is_legal b = between 32 126 b

-- "line at most 80 bytes without its end": how many legal bytes stand at a line's front, at most n
unfoldable pub legal_front : ℕ → List ℕ → ℕ
legal_front n [] = 0
legal_front zero (b ∷ rest) = 0
legal_front (suc n) (b ∷ rest) = cond (is_legal b) (suc (legal_front n rest)) 0

-- ---- fields

-- a field and the column of its first byte, from 1
pub record Field : Type 0 where
  pub column : ℕ
  pub text : List ℕ

-- does the text start with a byte that is no space
unfoldable pub starts_field : List ℕ → Bool
starts_field [] = false
starts_field (b ∷ rest) = not (eqb b space)

-- a byte in front of the first field
unfoldable pub widen_field : ℕ → ℕ → List Field → List Field
widen_field c b [] = record { column = c; text = b ∷ [] } ∷ []
widen_field c b (f ∷ fs) = record { column = c; text = b ∷ f.text } ∷ fs

-- a byte at column c in front of a text with these fields
unfoldable pub add_to_fields : ℕ → ℕ → Bool → List Field → List Field
add_to_fields c b more fs =
    cond (eqb b space) fs (cond more (widen_field c b fs) (record { column = c; text = b ∷ [] } ∷ fs))

-- "Fields are parted by spaces": the fields of a text whose first byte stands at column c
unfoldable pub fields_from : ℕ → List ℕ → List Field
fields_from c [] = []
fields_from c (b ∷ rest) = add_to_fields c b (starts_field rest) (fields_from (c + 1) rest)

-- the fields of a line
unfoldable pub fields_of : List ℕ → List Field
fields_of line = fields_from 1 line

-- ---- numbers

abbrev pub is_octal : ℕ → Bool
is_octal b = between 48 55 b

-- the value of octal digits, the first highest, after v
unfoldable pub octal : ℕ → List ℕ → ℕ
octal v [] = v
octal v (d ∷ ds) = octal (v * 8 + (d - 48)) ds

-- "Numbers in files are octal, one to six digits, at most 177777 (65,535)."
unfoldable pub is_number : List ℕ → Bool
is_number ds = between 1 most_digits (length ds) && (all is_octal ds && leb (octal 0 ds) largest_number)

unfoldable pub number_of : List ℕ → Option ℕ
number_of ds = cond (is_number ds) (some (octal 0 ds)) none

-- ---- names

abbrev pub is_letter : ℕ → Bool
is_letter b = between 65 90 b

abbrev pub is_digit : ℕ → Bool
is_digit b = between 48 57 b

abbrev pub dollar : ℕ
dollar = 36

abbrev pub dot : ℕ
dot = 46

-- An alphabet: the characters that a name may have. What a name is, and each rule that asks for one, is said over an alphabet, under a
-- name that ends in `Over`; the name without that means the rules' own alphabet.
abbrev pub Alphabet : Type 0
Alphabet = ℕ → Bool

-- document 02, 4/14: "After the first letter allow `$` and `.` too". The rules' own alphabet.
unfoldable pub is_name_character : Alphabet
is_name_character b = is_letter b || (is_digit b || (eqb b dollar || eqb b dot))

-- document 01: "A to Z and 0 to 9". No rule goes by it any more; it is kept to say what was accepted before.
unfoldable pub is_letter_or_digit : Alphabet
is_letter_or_digit b = is_letter b || is_digit b

-- "Names are 1 to 6 characters, [..] the first a letter."
unfoldable pub is_name_over : Alphabet → List ℕ → Bool
is_name_over alphabet cs = between 1 longest_name (length cs) && (is_letter (get_or cs 0 0) && all alphabet cs)

-- A name is kept as one number: its six bytes in base 256, the first highest, 0 where it is shorter.
unfoldable pub pack_name : List ℕ → ℕ
pack_name cs =
    ((((get_or cs 0 0 * 256 + get_or cs 1 0) * 256 + get_or cs 2 0) * 256 + get_or cs 3 0) * 256 + get_or cs 4 0) * 256 + get_or cs 5 0

unfoldable pub name_over : Alphabet → List ℕ → Option ℕ
name_over alphabet cs = cond (is_name_over alphabet cs) (some (pack_name cs)) none

-- the bytes up to the first 0
unfoldable pub up_to_zero : List ℕ → List ℕ
up_to_zero [] = []
up_to_zero (b ∷ rest) = let r = up_to_zero rest in cond (eqb b 0) [] (b ∷ r)

-- the characters of a packed name
unfoldable pub unpack_name : ℕ → List ℕ
unpack_name n =
    up_to_zero
    (n / 256 ^ 5 % 256
    ∷ n / 256 ^ 4 % 256
    ∷ n / 256 ^ 3 % 256
    ∷ n / 256 ^ 2 % 256
    ∷ n / 256 % 256
    ∷ n % 256
    ∷ [])

-- is the number a legal name's
unfoldable pub is_packed_over : Alphabet → ℕ → Bool
is_packed_over alphabet n = is_name_over alphabet (unpack_name n) && eqb (pack_name (unpack_name n)) n

-- by the rules' own alphabet
abbrev pub is_name : List ℕ → Bool
is_name = is_name_over is_name_character

abbrev pub name_of : List ℕ → Option ℕ
name_of = name_over is_name_character

abbrev pub is_packed : ℕ → Bool
is_packed = is_packed_over is_name_character

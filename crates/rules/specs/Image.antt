-- Document 01, "The image", and the fourth quarter of demand 2.
use Rattle.std.specs.Prelude.{ℕ, ◌+◌, ◌*◌, ◌/◌, ◌%◌, ◌^◌, false, cond, List, [], ◌∷◌, ◌++◌, length, get_or}
use Rattle.rules.specs.State.{Symbol, symbol, Word, unplaced, plain, refers, State, high, undefined_only}

-- the value of symbol i, 0 if it is undefined
unfoldable pub value_of : List Symbol → ℕ → ℕ
value_of t i = let s = get_or t i (symbol 0 0 false) in cond s.defined s.value 0

-- "it holds the text plus the symbol's value, or plus 0 if undefined, modulo 65,536"
unfoldable pub completed : ℕ → ℕ → ℕ
completed text v = text / 65536 * 65536 + (text % 65536 + v) % 65536

-- "all numbers high byte first"
unfoldable pub two : ℕ → List ℕ
two n = n / 256 % 256 ∷ n % 256 ∷ []

unfoldable pub quarters : ℕ → List ℕ
quarters w = two (w / 65536 ^ 3) ++ (two (w / 65536 ^ 2) ++ (two (w / 65536) ++ two w))

-- "Kind 57 hex: address, four quarters (10 bytes)"
unfoldable pub word_record : ℕ → ℕ → List ℕ
word_record a w = 0x57 ∷ two a ++ quarters w

-- "one for each placed word"
unfoldable pub record_of : List Symbol → ℕ → Word → List ℕ
record_of t a unplaced = []
record_of t a (plain text) = word_record a text
record_of t a (refers text i) = word_record a (completed text (value_of t i))

-- "addresses rising": the words from address a on
unfoldable pub records_from : List Symbol → ℕ → List Word → List ℕ
records_from t a [] = []
records_from t a (w ∷ ws) = record_of t a w ++ records_from t (a + 1) ws

-- "Kind 45 hex, last: HIGH, count of undefined symbols (4 bytes)."
unfoldable pub end_record : State → List ℕ
end_record s = 0x45 ∷ two (high s.words) ++ two (length (undefined_only s.symbols))

unfoldable pub image_of : State → List ℕ
image_of s = records_from s.symbols 0 s.words ++ end_record s

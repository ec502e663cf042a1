-- Positions in a file, and the bytes between them.
use Rattle.std.specs.Prelude.{ℕ, suc, ◌+◌, ◌-◌, ◌≤◌, Bool, cond, not, List, [], ◌∷◌, ◌≡◌, length, take, drop, eqb}

-- the bytes from i to e: what `&l[i..e]` gives
unfoldable pub part : ℕ → ℕ → List ℕ → List ℕ
part i e l = take (e - i) (drop i l)

-- how many bytes of the sort p stand at the front
unfoldable pub run : (ℕ → Bool) → List ℕ → ℕ
run p [] = 0
run p (b ∷ rest) = cond (p b) (suc (run p rest)) 0

-- the first position from i on whose byte is not of the sort p, or e
unfoldable pub past : (ℕ → Bool) → ℕ → ℕ → List ℕ → ℕ
past p i e l = i + run p (part i e l)

-- any byte but b
abbrev pub is_not : ℕ → ℕ → Bool
is_not b x = not (eqb x b)

-- a scan from one position to another stays in the file
pub record InFile (from to : ℕ) (file : List ℕ) : Type 0 where
  pub order : from ≤ to
  pub size : to ≤ length file

-- r is the position asked for; it lies from low to high
pub record Found (low high asked r : ℕ) : Type 0 where
  pub is : r ≡ asked
  pub least : low ≤ r
  pub most : r ≤ high

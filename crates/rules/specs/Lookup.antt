-- Document 02, 2/14: "a lookup in a load reads at most nine of the table's names".
-- A lookup is a search that has no table: it asks for the name at a position and goes on by what it is told. So the names that it
-- reads can be listed and counted, and what it tells depends on no others.
use Rattle.std.specs.Prelude.{ℕ, zero, suc, ◌+◌, ◌/◌, ◌≤◌, ◌<◌, Bool, false, cond, List, [], ◌∷◌, ◌≡◌, get_or, eqb, ltb}
use Rattle.rules.specs.Limits.{most_names}
use Rattle.rules.specs.State.{Symbol, symbol}
use Rattle.rules.specs.declared.lookup.Lookup.{Lookup}

-- what a search tells, or the position whose name it asks for and how it goes on by that name
pub data Search : Type 0 where
  tells : Lookup → Search
  asks : ℕ → (ℕ → Search) → Search

-- what a search comes to, where `names` has the name at each position
unfoldable pub answered : (ℕ → ℕ) → Search → Lookup
answered names (tells r) = r
answered names (asks p next) = answered names (next (names p))

-- the positions whose names it reads
unfoldable pub read_by : (ℕ → ℕ) → Search → List ℕ
read_by names (tells r) = []
read_by names (asks p next) = p ∷ read_by names (next (names p))

-- ---- the search by halves

-- what is told: a rank and a position
abbrev pub lookup : ℕ → ℕ → Lookup
lookup r p = record { rank = r; position = p }

-- is a rank left between low and high
abbrev pub rank_left : ℕ → ℕ → Bool
rank_left low high = ltb low high

-- for the name x, in an order of n positions, between the ranks low and high, next at rank m, with so many names to read
unfoldable pub halves : ℕ → List ℕ → ℕ → ℕ → ℕ → ℕ → ℕ → Search
halves zero order n x low high m = tells (lookup low n)
halves (suc most) order n x low high m =
    let p = get_or order m 0 in
    cond (rank_left low high)
    (asks p
    (λ y.
    cond (eqb y x) (tells (lookup m p))
    (cond (ltb y x) (halves most order n x (m + 1) high ((m + 1 + high) / 2)) (halves most order n x low m ((low + m) / 2)))))
    (tells (lookup low n))

-- a lookup in a load, which begins at a rank that is given
unfoldable pub look_up : List ℕ → ℕ → ℕ → ℕ → Search
look_up order n first x = halves most_names order n x 0 n first

-- ---- what the order has to be for a lookup to find what is there

-- the name at a position of the table, 0 past its end
abbrev pub name_at : List Symbol → ℕ → ℕ
name_at t p = (get_or t p (symbol 0 0 false)).name

-- the first n positions, each at one rank, their names rising
pub record InOrder (names : ℕ → ℕ) (n : ℕ) (order : List ℕ) : Type 0 where
  pub rank_of : ℕ → ℕ
  pub ranked : (p : ℕ) → p < n → (rank_of p < n) × (get_or order (rank_of p) 0 ≡ p)
  pub within : (i : ℕ) → i < n → get_or order i 0 < n
  pub rising : (i j : ℕ) → i < j → j < n → names (get_or order i 0) < names (get_or order j 0)

-- what a lookup of x tells in such an order: the position of x, or n and the rank at which x would stand
pub record LookedUp (names : ℕ → ℕ) (n : ℕ) (order : List ℕ) (x : ℕ) (r : Lookup) : Type 0 where
  pub most : r.position ≤ n
  pub rank_most : r.rank ≤ n
  pub there : r.position < n → (names r.position ≡ x) × (r.rank < n)
  pub below : n ≤ r.position → (i : ℕ) → i < r.rank → names (get_or order i 0) < x
  pub above : n ≤ r.position → (i : ℕ) → r.rank ≤ i → i < n → x < names (get_or order i 0)

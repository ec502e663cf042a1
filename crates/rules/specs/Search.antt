-- Document 01, "Searching a library": rounds over the untaken modules, until one takes nothing.
-- The search is over whatever test takes a module (`takes`) and whatever placing it does (`place`). Modules are told apart by their
-- positions in the section, and a set of them is a function from positions.
use Rattle.std.specs.Prelude.{ℕ, zero, suc, ◌+◌, Bool, false, cond, not, ◌||◌, List, [], ◌∷◌, length, eqb}

-- a set of modules, and one module more
abbrev pub ModuleSet : Type 0
ModuleSet = ℕ → Bool

unfoldable pub no_modules : ModuleSet
no_modules i = false

unfoldable pub with_module : ℕ → ModuleSet → ModuleSet
with_module i t j = eqb i j || t j

-- how many of the first n modules are in a set
unfoldable pub count : ModuleSet → ℕ → ℕ
count t zero = 0
count t (suc n) = cond (t n) 1 0 + count t n

-- within a round: the modules taken so far, how many of them in this round, and what the search changes
pub record Sweep (X : Type 0) : Type 0 where
  pub taken : ModuleSet
  pub took : ℕ
  pub now : X

-- after a search: the modules taken, the rounds, and what it changed
pub record Found (X : Type 0) : Type 0 where
  pub taken : ModuleSet
  pub rounds : ℕ
  pub now : X

abbrev pub sweep_of : {X : Type 0} → ModuleSet → ℕ → X → Sweep X
sweep_of t n x = record { taken = t; took = n; now = x }

abbrev pub found : {X : Type 0} → ModuleSet → ℕ → X → Found X
found t n x = record { taken = t; rounds = n; now = x }

-- one round more
abbrev pub round_more : {X : Type 0} → Found X → Found X
round_more f = found f.taken (f.rounds + 1) f.now

module _ {M X : Type 0} (takes : X → M → Bool) (place : X → M → X) where
  -- "A module is taken if one of its entries is undefined in the table at that moment."
  unfoldable pub visit : ℕ → M → Sweep X → Sweep X
  visit i m r =
      cond (r.taken i || not (takes r.now m)) r (sweep_of (with_module i r.taken) (r.took + 1) (place r.now m))

  -- the modules from position i on
  unfoldable pub sweep : ℕ → List M → Sweep X → Sweep X
  sweep i [] r = r
  sweep i (m ∷ ms) r = sweep (i + 1) ms (visit i m r)

  -- "One round visits the section's untaken modules in file order, placing each one as it is taken."
  unfoldable pub round : List M → ModuleSet → X → Sweep X
  round ms t x = sweep 0 ms (sweep_of t 0 x)

  -- "Rounds repeat until one takes nothing."
  unfoldable pub rounds : ℕ → List M → ModuleSet → X → Found X
  rounds zero ms t x = found t 0 x
  rounds (suc fuel) ms t x =
      let r = round ms t x in
      let more = round_more (rounds fuel ms r.taken r.now) in
      cond (eqb r.took 0) (found r.taken 1 r.now) more

  -- all flags clear at the start; every round but the last takes a module, so this many rounds suffice
  unfoldable pub search : List M → X → Found X
  search ms x = rounds (suc (length ms)) ms no_modules x

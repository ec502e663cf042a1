-- How the search of a section says what it did: the walk of the definitions, beside a refusal and state memory.
use Rattle.std.specs.Prelude.{ℕ, suc, ◌+◌, ◌≤◌, Bool, true, false, cond, not, ◌||◌, List, Option, None, Some, ◌≡◌, length, get_or, eqb}
use Rattle.rules.specs.Reading.{Module}
use Rattle.rules.specs.Search.{ModuleSet, Sweep, sweep_of, Found, found, sweep, round, rounds}
use Rattle.rules.specs.Load.{Walk, takes, place, searched}
use Rattle.rules.specs.declared.answer.Refusal.{Refusal}
use Rattle.state.specs.Good.{Good}
use Rattle.placing.specs.Walks.{Agrees}
use Rattle.search.specs.declared.rounds.Round.{Round}
use Rattle.search.specs.declared.rounds.Searched.{Searched}

-- ---- a module in turn

-- the module is taken already, or a walk does not take it
pub record LeftOut (m : Module) (taken : Bool) (refusal : Refusal) (before after : List ℕ) : Type 0 where
  pub good : Good after
  pub does : (w : Walk) → Agrees w refusal before → ((taken || not (takes w m)) ≡ true) × Agrees w refusal after

-- it was not taken yet, and a walk takes it and goes on by t
pub record Taken (m : Module) (taken : Bool) (refusal : Refusal) (before : List ℕ) (t : Refusal) (after : List ℕ) : Type 0 where
  pub good : Good after
  pub fresh : taken ≡ false
  pub does : (w : Walk) → Agrees w refusal before → (takes w m ≡ true) × Agrees (place w m) t after

-- a visit to a module, by whether it is taken already
abbrev pub Visited : Module → Bool → Refusal → List ℕ → Option Refusal → List ℕ → Type 0
Visited m taken refusal before None after = LeftOut m taken refusal before after
Visited m taken refusal before (Some t) after = Taken m taken refusal before t after

-- the refusal behind a visit
abbrev pub refusal_after : Refusal → Option Refusal → Refusal
refusal_after refusal None = refusal
refusal_after refusal (Some t) = t

-- ---- a round, and the rounds of a section

-- the flags of the taken modules as a set
abbrev pub set_of : List Bool → ModuleSet
set_of flags i = get_or flags i false

pub record RoundIs (s : Sweep Walk) (r : Round) (flags : List Bool) (after : List ℕ) : Type 0 where
  pub taken_is : set_of flags ≡ s.taken
  pub took_is : r.took ≡ s.took
  pub agrees : Agrees s.now r.refusal after

pub record Rounded (ms : List Module) (flags : List Bool) (refusal : Refusal) (before : List ℕ) (r : Round) (taken : List Bool) (after : List ℕ) : Type 0 where
  pub good : Good after
  pub does : (w : Walk) → Agrees w refusal before → RoundIs (round takes place ms (set_of flags) w) r taken after

-- on the way through a round that ends in s: the modules from position i on, after those taken so far
pub record Swept (s : Sweep Walk) (i took : ℕ) (rest : List Module) (flags : List Bool) (refusal : Refusal) (cells : List ℕ) : Type 0 where
  pub here : Walk
  pub agrees : Agrees here refusal cells
  pub is : sweep takes place i rest (sweep_of (set_of flags) took here) ≡ s

pub record Sought (ms : List Module) (refusal : Refusal) (before : List ℕ) (r : Searched) (after : List ℕ) : Type 0 where
  pub good : Good after
  pub most : r.rounds ≤ 257
  pub rounds_is : (w : Walk) → Agrees w refusal before → r.rounds ≡ (searched ms w).rounds
  pub agrees : (w : Walk) → Agrees w refusal before → Agrees (searched ms w).now r.refusal after

-- on the way through a search that ends in f: after k rounds, the last of which took this many
abbrev pub later : ℕ → Found Walk → Found Walk
later k f = found f.taken (f.rounds + k) f.now

pub record Seeking (f : Found Walk) (ms : List Module) (k took : ℕ) (flags : List Bool) (refusal : Refusal) (cells : List ℕ) : Type 0 where
  pub here : Walk
  pub agrees : Agrees here refusal cells
  pub is :
      cond (eqb took 0) (found (set_of flags) k here) (later k (rounds takes place (suc (length ms)) ms (set_of flags) here)) ≡ f

-- Demand 3: in an accepted load, the modules that a section's search takes are a sufficient set, and the least.
use Prim.Native.Nat.{ℕ, zero, suc, ◌<◌}
use native.Mathlib.Omega.{arith}
use mathlib.Core.Bool.{Bool, true, false, not, ◌&&◌, ◌||◌, and-true, and-false, or-false, or_comm}
use mathlib.Core.List.{List, [], ◌∷◌, ◌++◌}
use mathlib.Core.Logic.{⊎_elim}
use mathlib.Core.Option.{some}
use mathlib.Core.Path.{◌≡◌, refl, sym, ap, ◌∙◌}
use lib.ListN.{length, get_elem?}
use lib.Dec.{eqb, leb}
use borrow.Author.Tests.{eqb-true, eqb-false, not-true}
use Rattle.rules.specs.Text.{any, all}
use Rattle.rules.specs.Reading.{Module, Item, section, items_of}
use Rattle.rules.specs.State.{Symbol, State, is_defined, is_undefined, different_names, sound_symbol, sound, sound_over}
use Rattle.rules.specs.Placing.{joined, placed, twice}
use Rattle.rules.specs.Search.{ModuleSet, no_modules, with_module}
use Rattle.rules.specs.Load.{Walk, walking, accepted, place, entry_names, is_needed, takes, searched, section_names, Progress, progress, walk_item, walk_items, walk_from}
use Rattle.rules.specs.Calls.{now, holding, Outcome, load}
use Rattle.rules.specs.declared.answer.LoadAnswer.{LoadAnswer}
use Rattle.rules.specs.Demand.{all_modules, is_entry, is_external, entry_of, external_of, Sufficient, Contains, OneMore, SameSet, LeastSufficient, TakesLeast, LeastAtEach}
use Rattle.rules.proofs.BoolLaws.{never, or_on, or_off, or_left_comm, and_on, eqb_same, any_at, any_in}
use Rattle.rules.proofs.SearchLaws.{search_keeps, search_settled}
use Rattle.rules.proofs.TableLaws.{not_both, defined_joined, undefined_joined, different_joined}
use Rattle.rules.proofs.WalkLaws.{place_accepted, place_placed, section_accepted, items_accepted, items_append, items_different, load_accepted}
use Rattle.rules.proofs.SectionLaws.{as_in, some_at, some_here, some_in, some_none, some_larger, some_with, alone}

-- ---- what every taking keeps: the table now, from the table before the section and the modules taken

record Holds (table : List Symbol) (ms : List Module) (t : ModuleSet) (now : List Symbol) : Type 0 where
  different : different_names now ≡ true
  defined : (x : ℕ) → is_defined x now ≡ (is_defined x table || entry_of x t ms)
  undefined : (x : ℕ) → is_undefined x now ≡ ((is_undefined x table || external_of x t ms) && not (is_defined x now))
  contained : (set : ModuleSet) → Sufficient table ms set → Contains ms set t

module _ (table : List Symbol) (ms : List Module) where
  holds_start : different_names table ≡ true → Holds table ms no_modules table
  unfolding Contains no_modules
  holds_start h =
      record {
        different = h;
        defined = λ x. rw (some_none (is_entry x) ms) (sym (or-false (is_defined x table)));
        undefined = λ x.
            rw (some_none (is_external x) ms, or-false)
            (go (is_undefined x table) (is_defined x table) (not_both x table h));
        contained = λ set _ i _ e. never e refl;
      }
    where
      go : (u d : Bool) → (u ≡ true → d ≡ false) → u ≡ (u && not d)
      go true d q = rw (q refl)
      go false d q = refl

  -- a module m at index i, taken when the table is now
  module _ (i : ℕ) (m : Module) (stands : get_elem? ms i ≡ some m) (t : ModuleSet) (now : List Symbol)
      (h : Holds table ms t now) where
    step_defined : (base x : ℕ) → is_defined x (joined base m now) ≡ (is_defined x table || entry_of x (with_module i t) ms)
    step_defined base x =
        rw (defined_joined, h.defined x, some_with (is_entry x) ms i m t stands)
        (or_left_comm (is_entry x m) (is_defined x table) (entry_of x t ms))

    step_undefined : (base x : ℕ) →
        is_undefined x (joined base m now)
        ≡ ((is_undefined x table || external_of x (with_module i t) ms) && not (is_defined x (joined base m now)))
    step_undefined base x =
        let joins = undefined_joined base m now x h.different in
        rw (joins, defined_joined, h.undefined x, some_with (is_external x) ms i m t stands)
        (go (is_entry x m) (is_defined x now) (is_undefined x table) (external_of x t ms) (is_external x m))
      where
        go : (n d a b c : Bool) → (((a || b) && not d || c) && not (n || d)) ≡ ((a || (c || b)) && not (n || d))
        go true d a b c = simp and-false
        go false true a b c = simp and-false
        go false false true b c = refl
        go false false false b c = simp (and-true, or_comm b c)

    -- where an entry of it is undefined, a sufficient set has the module
    undefined_in : twice (section_names ms) ≡ false → (x : ℕ) → is_entry x m ≡ true → is_undefined x now ≡ true →
        (set : ModuleSet) → Sufficient table ms set → set i ≡ true
    unfolding Sufficient all_modules
    undefined_in once x entry u set enough =
        let open_now = sym (h.undefined x) ∙ u in
        let asked = and_on (is_undefined x table || external_of x t ms) (not (is_defined x now)) open_now in
        let not_now = sym (h.defined x) ∙ not-true (is_defined x now) asked.1 in
        let new = or_off (is_defined x table) (entry_of x t ms) not_now in
        let larger = some_larger (is_external x) ms set t (h.contained set enough) in
        let known = some_here (is_entry x) ms all_modules i m stands refl entry in
        let open_there = or_more (is_undefined x table) (external_of x t ms) (external_of x set ms) larger asked.0 in
        let answered = enough x open_there in
        let found = unless (entry_of x set ms) (is_defined x table) (entry_of x all_modules ms) answered new.0 known in
        let one = some_in (is_entry x) ms set found in
        rw (alone x ms once i one.index m one.one stands one.stands entry one.passes) one.belongs
      where
        or_more : (a b c : Bool) → (b ≡ true → c ≡ true) → (a || b) ≡ true → (a || c) ≡ true
        or_more true b c f e = refl
        or_more false b c f e = f e

        unless : (a b c : Bool) → (a || (b || not c)) ≡ true → b ≡ false → c ≡ true → a ≡ true
        unless true b c e p q = refl
        unless false true c e p q = sym p
        unless false false true e p q = e
        unless false false false e p q = q

    needed_in : twice (section_names ms) ≡ false → any (λ x. is_undefined x now) (entry_names m) ≡ true →
        (set : ModuleSet) → Sufficient table ms set → set i ≡ true
    unfolding is_entry
    needed_in once wish =
        let w = any_in (λ x. is_undefined x now) (entry_names m) wish in
        let x = w.1 in
        undefined_in once x (any_at (eqb x) (entry_names m) w.0 x w.2 (eqb_same x)) w.3

    holds_step : twice (section_names ms) ≡ false → any (λ x. is_undefined x now) (entry_names m) ≡ true → (base : ℕ) →
        Holds table ms (with_module i t) (joined base m now)
    unfolding Contains with_module
    holds_step once wish base =
        record {
          different = different_joined base m now h.different;
          defined = step_defined base;
          undefined = step_undefined base;
          contained = λ set enough j l e.
              ⊎_elim
              (λ q. rw (← eqb-true i j q) (needed_in once wish set enough))
              (h.contained set enough j l)
              (or_on (eqb i j) (t j) e);
        }

-- ---- small steps: Booleans, what is needed, and two sets

or_not : (a b : Bool) → (a || not b) ≡ true → b ≡ true → a ≡ true
or_not true b e q = refl
or_not false true e q = e
or_not false false e q = q

unless_not : (a b c : Bool) → (a ≡ false → b ≡ false → c ≡ true → a ≡ true) → (a || (b || not c)) ≡ true
unless_not true b c f = refl
unless_not false true c f = refl
unless_not false false true f = f refl refl refl
unless_not false false false f = refl

undefined_calls : (v : Walk) (m : Module) (x : ℕ) → accepted v ≡ true → is_undefined x v.state.symbols ≡ true →
    is_entry x m ≡ true → takes v m ≡ true
unfolding takes is_needed is_entry
undefined_calls v m x a u e =
    let w = any_in (eqb x) (entry_names m) e in
    let here = rw (eqb-true x w.1 w.3) at u in
    rw a (any_at (λ y. is_undefined y v.state.symbols) (entry_names m) w.0 w.1 w.2 here)

-- of two sets, one within the other and not the same, the larger has a module more
abbrev SameOn : ModuleSet → ModuleSet → ℕ → Type 0
SameOn a b n = (i : ℕ) → i < n → a i ≡ b i

same_at : (a b : ModuleSet) (n : ℕ) → SameOn a b n → a n ≡ b n → SameOn a b (suc n)
same_at a b n h e i l = go (eqb i n) refl
  where
    go : (t : Bool) → eqb i n ≡ t → a i ≡ b i
    go true q = rw (eqb-true i n q) e
    go false q = h i (omega (arith, eqb-false i n q))

one_more : (big small : ModuleSet) (n : ℕ) → ((i : ℕ) → i < n → small i ≡ true → big i ≡ true) → ¬ SameOn big small n →
    (i : ℕ) × (i < n) × (big i ≡ true) × (small i ≡ false)
one_more big small zero c other = absurd (other (λ i l. absurd (omega arith)))
one_more big small (suc n) c other = go (big n) (small n) refl refl (one_more big small n (λ i l. c i (omega arith)))
  where
    More : ℕ → Type 0
    More k = (i : ℕ) × (i < k) × (big i ≡ true) × (small i ≡ false)

    below : big n ≡ small n → (¬ SameOn big small n → More n) → More (suc n)
    below e ih = let r = ih (λ h. other (same_at big small n h e)) in (r.0, omega arith, r.2, r.3)

    go : (p q : Bool) → big n ≡ p → small n ≡ q → (¬ SameOn big small n → More n) → More (suc n)
    go true true a b ih = below (a ∙ sym b) ih
    go true false a b ih = (n, omega arith, a, b)
    go false true a b ih = never (c n (omega arith) b) a
    go false false a b ih = below (a ∙ sym b) ih

-- ---- the search of a section, in a walk that is accepted after it

module _ (ms : List Module) (w : Walk) (once : twice (section_names ms) ≡ false)
    (different : different_names w.state.symbols ≡ true) (well : accepted (searched ms w).now ≡ true) where
  -- the invariant at the end of the search
  section_holds : Holds w.state.symbols ms (searched ms w).taken (searched ms w).now.state.symbols
  unfolding searched takes is_needed placed
  section_holds =
      let table = w.state.symbols in
      search_keeps takes place (λ t v. accepted v ≡ true → Holds table ms t v.state.symbols) ms w
      (λ i m t v e _ wish ih h.
      let before = ih (place_accepted v m h) in
      let undefined = (and_on (accepted v) (is_needed v.state m) wish).1 in
      rw (place_placed v m h) (holds_step table ms i m e t v.state.symbols before once undefined v.state.next))
      (λ _. holds_start table ms different)
      well

  -- a module that has an undefined name as an entry is taken, for at the end nothing more is needed
  section_settled : (x : ℕ) → is_undefined x (searched ms w).now.state.symbols ≡ true →
      entry_of x all_modules ms ≡ true →
      entry_of x (searched ms w).taken ms ≡ true
  unfolding searched
  section_settled x u e =
      let f = searched ms w in
      let one = some_in (is_entry x) ms all_modules e in
      some_at (is_entry x) ms f.taken
      (as_in (is_entry x) ms f.taken one
      (or_not (f.taken one.index) (takes f.now one.one)
      (search_settled takes place ms w one.index one.one one.stands)
      (undefined_calls f.now one.one x well u one.passes)))

  -- "The modules taken there are a sufficient set"
  section_sufficient : Sufficient w.state.symbols ms (searched ms w).taken
  unfolding Sufficient
  section_sufficient x asked =
      let h = section_holds in
      unless_not (entry_of x (searched ms w).taken ms) (is_defined x w.state.symbols) (entry_of x all_modules ms)
      (λ a b. section_settled x (rw (h.undefined x, asked, h.defined x, a, b)))

  -- "and every other sufficient set contains them all and at least one more"
  section_least : LeastSufficient w.state.symbols ms (searched ms w).taken
  unfolding Contains OneMore SameSet
  section_least =
      record {
        sufficient = section_sufficient;
        least = λ set enough other.
            let contains = section_holds.contained set enough in
            (contains, one_more set (searched ms w).taken (length ms) contains other);
      }

-- ---- the claim on LOAD

-- the names of a sound state are different
sound_different : (s : State) → sound s ≡ true → different_names s.symbols ≡ true
unfolding sound_over
sound_different s h =
    let a = (and_on (leb (length s.symbols) 256) _ h).1 in
    let b = (and_on (all sound_symbol s.symbols) _ a).1 in
    (and_on (different_names s.symbols) _ b).0

-- "if the load is accepted, take any library section of the file"
pub section_taken : (s : State) (file : List ℕ) → sound s ≡ true → (load (holding s) true file).answer.number ≡ 0 →
    (before after : List Item) (line : ℕ) (ms : List Module) → items_of file ≡ before ++ (section line ms ∷ after) →
    TakesLeast (walk_from s before).walk ms (walk_from s (before ++ (section line ms ∷ []))).walk
unfolding walk_items walk_item
section_taken s file good done before after line ms e =
    let p = walk_from s before in
    let end = rw (e, items_append) at (load_accepted s file done).0 in
    let there = items_accepted (walk_item p (section line ms)) after end in
    let passed = section_accepted p line ms there in
    let different = items_different (progress (walking s) 0) before (sound_different s good) in
    record {
      least = section_least ms p.walk passed.2 different (rw passed.1 at there);
      goes_on =
          ap (λ (q : Progress). q.walk) (items_append (progress (walking s) 0) before (section line ms ∷ []))
          ∙ ap (λ (w : Walk). (searched ms w).now) passed.1;
    }

pub demand_3 : (s t : State) (file : List ℕ) → sound s ≡ true → (load (holding s) true file).answer.number ≡ 0 →
    (load (holding s) true file).left ≡ now t → LeastAtEach s file t
demand_3 s t file good done left =
    record {
      sections = section_taken s file good done;
      ends = now_same (sym left ∙ ap (λ (o : Outcome LoadAnswer). o.left) (load_accepted s file done).1);
    }
  where
    now_same : {a b : State} → now a ≡ now b → a ≡ b
    now_same e = cc

-- of a file that is one library: the modules that its search takes are the least sufficient set, and the load leaves what that search
-- ends in
pub library_least : (s t : State) (file : List ℕ) (line : ℕ) (ms : List Module) → LeastAtEach s file t → items_of file ≡ section line ms ∷ [] →
    LeastSufficient s.symbols ms (searched ms (walking s)).taken × (t ≡ (searched ms (walking s)).now.state)
unfolding walk_items
library_least s t file line ms d e =
    let here : TakesLeast (walking s) ms (walk_from s (section line ms ∷ [])).walk = d.sections [] [] line ms e in
    (here.least, d.ends ∙ ap (λ is. (walk_from s is).walk.state) e ∙ ap (λ (w : Walk). w.state) here.goes_on)

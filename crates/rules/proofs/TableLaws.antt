-- The table of symbols: what an entry, an external and a whole module do to it, name by name.
use Prim.Native.Nat.{ℕ, zero, suc, ◌+◌}
use native.Mathlib.Numerals.{add-one}
use mathlib.Core.Bool.{Bool, true, false, cond, not, ◌&&◌, ◌||◌, and-true, and-false, or-true, or-false, or_self_left}
use mathlib.Core.List.{List, [], ◌∷◌, map}
use mathlib.Core.Option.{some}
use mathlib.Core.Path.{◌≡◌, refl, sym, ◌∙◌}
use lib.ListN.{get_or, get_elem?}
use lib.Dec.{eqb}
use borrow.Author.Tests.{eqb-true, not-true}
use Rattle.rules.specs.Text.{any}
use Rattle.rules.specs.Reading.{Module}
use Rattle.rules.specs.State.{Symbol, symbol, name_is, is_symbol, is_defined, is_undefined, position_of, different_names}
use Rattle.rules.specs.Placing.{entries, externals, entry_name, value_at, define, mention, define_all, mention_all, joined, twice}
use Rattle.rules.specs.Load.{entry_names}
use Rattle.rules.specs.Demand.{is_entry, is_external}
use Rattle.rules.specs.declared.line.Entry.{Entry}
use Rattle.rules.proofs.BoolLaws.{cond_cases, never, never_none, or_off, or_left_comm, and_on, eqb_same, eqb_comm, any_at, any_map}

-- ---- symbols are defined or undefined, and not both

pub either : (y : ℕ) (t : List Symbol) → is_symbol y t ≡ (is_defined y t || is_undefined y t)
unfolding is_symbol is_defined is_undefined any
either y [] = refl
either y (s ∷ t) = go (name_is y s) s.defined (is_defined y t) (is_undefined y t) (either y t)
  where
    go : (e d b c : Bool) {a : Bool} → a ≡ (b || c) → (e || a) ≡ (e && d || b || (e && not d || c))
    go true true b c q = refl
    go true false b c q = sym (or-true b)
    go false d b c q = q

pub not_symbol : (y : ℕ) (t : List Symbol) → is_symbol y t ≡ false →
    (is_defined y t ≡ false) × (is_undefined y t ≡ false)
not_symbol y t e = or_off (is_defined y t) (is_undefined y t) (sym (either y t) ∙ e)

pub different_cons : (s : Symbol) (t : List Symbol) → different_names (s ∷ t) ≡ true →
    (is_symbol s.name t ≡ false) × (different_names t ≡ true)
unfolding different_names
different_cons s t h =
    let q = and_on (not (is_symbol s.name t)) (different_names t) h in
    (not-true (is_symbol s.name t) q.0, q.1)

-- a name of the first symbol is no other's
other_names : (y : ℕ) (s : Symbol) (t : List Symbol) → different_names (s ∷ t) ≡ true → name_is y s ≡ true →
    (is_defined y t ≡ false) × (is_undefined y t ≡ false)
other_names y s t h e = not_symbol y t (rw (eqb-true s.name y e) at (different_cons s t h).0)

pub not_both : (y : ℕ) (t : List Symbol) → different_names t ≡ true → is_undefined y t ≡ true → is_defined y t ≡ false
unfolding is_defined is_undefined any
not_both y [] h u = refl
not_both y (s ∷ t) h u =
    let ih = not_both y t (different_cons s t h).1 in
    go (name_is y s) s.defined (is_defined y t) (is_undefined y t) (other_names y s t h) ih u
  where
    go : (e d a b : Bool) → (e ≡ true → (a ≡ false) × (b ≡ false)) → (b ≡ true → a ≡ false) →
        (e && not d || b) ≡ true → (e && d || a) ≡ false
    go true true a b q ih u = never u (q refl).1
    go true false a b q ih u = (q refl).0
    go false d a b q ih u = ih u

-- ---- an entry

pub symbol_define : (y x v : ℕ) (t : List Symbol) → is_symbol y (define x v t) ≡ (eqb x y || is_symbol y t)
unfolding is_symbol any define
symbol_define y x v [] = refl
symbol_define y x v (s ∷ t) =
    cond_cases (λ (r : List Symbol). is_symbol y r ≡ (eqb x y || is_symbol y (s ∷ t))) (name_is x s) _ _
    (λ e. rw (eqb-true s.name x e) (sym (or_self_left (eqb x y) (is_symbol y t))))
    (λ e. rw (symbol_define y x v t) (or_left_comm (name_is y s) (eqb x y) (is_symbol y t)))

pub defined_define : (y x v : ℕ) (t : List Symbol) → is_defined y (define x v t) ≡ (eqb x y || is_defined y t)
unfolding is_defined any define
defined_define y x v [] = rw and-true
defined_define y x v (s ∷ t) =
    cond_cases (λ (r : List Symbol). is_defined y r ≡ (eqb x y || is_defined y (s ∷ t))) (name_is x s) _ _
    (λ e. rw (eqb-true s.name x e) (go (eqb x y) s.defined (is_defined y t)))
    (λ e. rw (defined_define y x v t) (or_left_comm (name_is y s && s.defined) (eqb x y) (is_defined y t)))
  where
    go : (e f d : Bool) → (e && true || d) ≡ (e || (e && f || d))
    go true f d = refl
    go false f d = refl

pub undefined_define : (y x v : ℕ) (t : List Symbol) → different_names t ≡ true →
    is_undefined y (define x v t) ≡ (is_undefined y t && not (eqb x y))
unfolding is_undefined any define
undefined_define y x v [] h = rw and-false
undefined_define y x v (s ∷ t) h =
    cond_cases (λ (r : List Symbol). is_undefined y r ≡ (is_undefined y (s ∷ t) && not (eqb x y))) (name_is x s) _ _
    (λ e.
    let same = eqb-true s.name x e in
    rw same (here (eqb x y) (not s.defined) (is_undefined y t) (λ q. (other_names y s t h (rw same q)).1)))
    (λ e.
    let ih = undefined_define y x v t (different_cons s t h).1 in
    rw ih (there (eqb x y) (name_is y s) (not s.defined) (is_undefined y t) (λ q. rw (eqb-true x y q) at e)))
  where
    here : (e f u : Bool) → (e ≡ true → u ≡ false) → (e && false || u) ≡ ((e && f || u) && not e)
    here true f u q = simp (q refl, and-false)
    here false f u q = sym (and-true u)

    there : (e n f u : Bool) → (e ≡ true → n ≡ false) → (n && f || (u && not e)) ≡ ((n && f || u) && not e)
    there true n f u q = simp (q refl, and-false)
    there false n f u q = simp and-true

-- ---- an external

pub symbol_mention : (y x : ℕ) (t : List Symbol) → is_symbol y (mention x t) ≡ (eqb x y || is_symbol y t)
unfolding is_symbol any mention
symbol_mention y x [] = refl
symbol_mention y x (s ∷ t) =
    cond_cases (λ (r : List Symbol). is_symbol y r ≡ (eqb x y || is_symbol y (s ∷ t))) (name_is x s) _ _
    (λ e. rw (eqb-true s.name x e) (sym (or_self_left (eqb x y) (is_symbol y t))))
    (λ e. rw (symbol_mention y x t) (or_left_comm (name_is y s) (eqb x y) (is_symbol y t)))

pub defined_mention : (y x : ℕ) (t : List Symbol) → is_defined y (mention x t) ≡ is_defined y t
unfolding is_defined any mention
defined_mention y x [] = rw and-false
defined_mention y x (s ∷ t) =
    cond_cases (λ (r : List Symbol). is_defined y r ≡ is_defined y (s ∷ t)) (name_is x s) _ _
    (λ _. refl)
    (λ e. rw (defined_mention y x t))

pub undefined_mention : (y x : ℕ) (t : List Symbol) →
    is_undefined y (mention x t) ≡ (is_undefined y t || eqb x y && not (is_symbol y t))
unfolding is_undefined is_symbol any mention
undefined_mention y x [] = rw or-false
undefined_mention y x (s ∷ t) =
    cond_cases
    (λ (r : List Symbol). is_undefined y r ≡ (is_undefined y (s ∷ t) || eqb x y && not (is_symbol y (s ∷ t))))
    (name_is x s) _ _
    (λ e. rw (eqb-true s.name x e) (here (eqb x y) (eqb x y && not s.defined || is_undefined y t) (is_symbol y t)))
    (λ e.
    rw (undefined_mention y x t)
    (there (eqb x y) (name_is y s) (not s.defined) (is_undefined y t) (is_symbol y t) (λ q. rw (eqb-true x y q) at e)))
  where
    here : (e u b : Bool) → u ≡ (u || e && not (e || b))
    here true u b = sym (or-false u)
    here false u b = sym (or-false u)

    there : (e n f u b : Bool) → (e ≡ true → n ≡ false) →
        (n && f || (u || e && not b)) ≡ (n && f || u || e && not (n || b))
    there true n f u b q = simp (q refl)
    there false n f u b q = simp or-false

-- ---- names stay different

cons_different : (s : Symbol) (t : List Symbol) → is_symbol s.name t ≡ false → different_names t ≡ true →
    different_names (s ∷ t) ≡ true
unfolding different_names
cons_different s t p q = rw (p, q)

-- a symbol in front is not of a name that comes behind it
still_other : (x : ℕ) (s : Symbol) (t : List Symbol) → different_names (s ∷ t) ≡ true → name_is x s ≡ false →
    (eqb x s.name || is_symbol s.name t) ≡ false
still_other x s t h e = rw (eqb_comm x s.name, e) (different_cons s t h).0

pub different_define : (x v : ℕ) (t : List Symbol) → different_names t ≡ true → different_names (define x v t) ≡ true
unfolding different_names is_symbol any define
different_define x v [] h = refl
different_define x v (s ∷ t) h =
    cond_cases (λ (r : List Symbol). different_names r ≡ true) (name_is x s) _ _
    (λ e. rw (eqb-true s.name x e) at h)
    (λ e.
    cons_different s (define x v t)
    (symbol_define s.name x v t ∙ still_other x s t h e)
    (different_define x v t (different_cons s t h).1))

pub different_mention : (x : ℕ) (t : List Symbol) → different_names t ≡ true → different_names (mention x t) ≡ true
unfolding different_names is_symbol any mention
different_mention x [] h = refl
different_mention x (s ∷ t) h =
    cond_cases (λ (r : List Symbol). different_names r ≡ true) (name_is x s) _ _
    (λ e. h)
    (λ e.
    cons_different s (mention x t)
    (symbol_mention s.name x t ∙ still_other x s t h e)
    (different_mention x t (different_cons s t h).1))

-- ---- all entries

-- is the name one of the entries
abbrev pub among : ℕ → List Entry → Bool
among y es = any (eqb y) (map entry_name es)

or_swap : (a b c : Bool) → (a || (b || c)) ≡ (b || a || c)
or_swap a true c = or-true a
or_swap a false c = refl

pub symbol_define_all : (y base : ℕ) (es : List Entry) (t : List Symbol) →
    is_symbol y (define_all base es t) ≡ (among y es || is_symbol y t)
unfolding define_all any
symbol_define_all y base [] t = refl
symbol_define_all y base (e ∷ es) t =
    rw (symbol_define_all y base es (define e.name (value_at base e) t), symbol_define, eqb_comm e.name y)
    (or_swap (among y es) (eqb y e.name) (is_symbol y t))

pub defined_define_all : (y base : ℕ) (es : List Entry) (t : List Symbol) →
    is_defined y (define_all base es t) ≡ (among y es || is_defined y t)
unfolding define_all any
defined_define_all y base [] t = refl
defined_define_all y base (e ∷ es) t =
    rw (defined_define_all y base es (define e.name (value_at base e) t), defined_define, eqb_comm e.name y)
    (or_swap (among y es) (eqb y e.name) (is_defined y t))

pub undefined_define_all : (y base : ℕ) (es : List Entry) (t : List Symbol) → different_names t ≡ true →
    is_undefined y (define_all base es t) ≡ (is_undefined y t && not (among y es))
unfolding define_all any
undefined_define_all y base [] t h = sym (and-true (is_undefined y t))
undefined_define_all y base (e ∷ es) t h =
    let kept = different_define e.name (value_at base e) t h in
    let ih = undefined_define_all y base es (define e.name (value_at base e) t) kept in
    rw (ih, undefined_define, eqb_comm e.name y) (go (is_undefined y t) (eqb y e.name) (among y es))
  where
    go : (u b c : Bool) → (u && not b && not c) ≡ (u && not (b || c))
    go true true c = refl
    go true false c = refl
    go false b c = refl

pub different_define_all : (base : ℕ) (es : List Entry) (t : List Symbol) → different_names t ≡ true →
    different_names (define_all base es t) ≡ true
unfolding define_all
different_define_all base [] t h = h
different_define_all base (e ∷ es) t h =
    different_define_all base es (define e.name (value_at base e) t) (different_define e.name (value_at base e) t h)

-- ---- all externals

pub symbol_mention_all : (y : ℕ) (xs : List ℕ) (t : List Symbol) →
    is_symbol y (mention_all xs t) ≡ (any (eqb y) xs || is_symbol y t)
unfolding mention_all any
symbol_mention_all y [] t = refl
symbol_mention_all y (x ∷ xs) t =
    rw (symbol_mention_all y xs (mention x t), symbol_mention, eqb_comm x y)
    (or_swap (any (eqb y) xs) (eqb y x) (is_symbol y t))

pub defined_mention_all : (y : ℕ) (xs : List ℕ) (t : List Symbol) → is_defined y (mention_all xs t) ≡ is_defined y t
unfolding mention_all
defined_mention_all y [] t = refl
defined_mention_all y (x ∷ xs) t = defined_mention_all y xs (mention x t) ∙ defined_mention y x t

pub undefined_mention_all : (y : ℕ) (xs : List ℕ) (t : List Symbol) →
    is_undefined y (mention_all xs t) ≡ (is_undefined y t || any (eqb y) xs && not (is_symbol y t))
unfolding mention_all any
undefined_mention_all y [] t = sym (or-false (is_undefined y t))
undefined_mention_all y (x ∷ xs) t =
    rw (undefined_mention_all y xs (mention x t), undefined_mention, symbol_mention, eqb_comm x y)
    (go (is_undefined y t) (eqb y x) (any (eqb y) xs) (is_symbol y t))
  where
    go : (u b c d : Bool) → (u || b && not d || c && not (b || d)) ≡ (u || (b || c) && not d)
    go u true c d = simp (and-false, or-false)
    go u false c d = simp or-false

pub different_mention_all : (xs : List ℕ) (t : List Symbol) → different_names t ≡ true →
    different_names (mention_all xs t) ≡ true
unfolding mention_all
different_mention_all [] t h = h
different_mention_all (x ∷ xs) t h = different_mention_all xs (mention x t) (different_mention x t h)

-- ---- a module

module _ (base : ℕ) (m : Module) (t : List Symbol) where
  pub symbol_joined : (y : ℕ) → is_symbol y (joined base m t) ≡ (is_external y m || (is_entry y m || is_symbol y t))
  unfolding joined is_entry is_external entry_names
  symbol_joined y = rw (symbol_mention_all, symbol_define_all)

  pub defined_joined : (y : ℕ) → is_defined y (joined base m t) ≡ (is_entry y m || is_defined y t)
  unfolding joined is_entry entry_names
  defined_joined y = rw (defined_mention_all, defined_define_all)

  -- what was undefined, or is an external, and is not defined now
  pub undefined_joined : (y : ℕ) → different_names t ≡ true →
      is_undefined y (joined base m t) ≡ ((is_undefined y t || is_external y m) && not (is_entry y m || is_defined y t))
  unfolding joined is_entry is_external entry_names
  undefined_joined y h =
      rw (undefined_mention_all, undefined_define_all, symbol_define_all, either)
      (go (is_entry y m) (is_undefined y t) (is_defined y t) (is_external y m) (not_both y t h))
    where
      go : (n u d x : Bool) → (u ≡ true → d ≡ false) →
          (u && not n || x && not (n || (d || u))) ≡ ((u || x) && not (n || d))
      go true u d x q = simp and-false
      go false true d x q = rw (q refl)
      go false false d x q = simp or-false

  pub different_joined : different_names t ≡ true → different_names (joined base m t) ≡ true
  unfolding joined
  different_joined h =
      different_mention_all (externals m) (define_all base (entries m) t) (different_define_all base (entries m) t h)

-- ---- values

-- an absolute entry's value does not move, a relocated one's moves by the base
pub value_absolute : (base : ℕ) (e : Entry) → e.relocated ≡ false → value_at base e ≡ e.value
unfolding value_at
value_absolute base e h = rw h

pub value_relocated : (base : ℕ) (e : Entry) → e.relocated ≡ true → value_at base e ≡ e.value + base
unfolding value_at
value_relocated base e h = rw h

-- the symbol at a name's position, or d where it has none
unfoldable pub symbol_of : ℕ → List Symbol → Symbol → Symbol
symbol_of y t d = get_or t (position_of y t) d

pub symbol_of_cons : (y : ℕ) (s : Symbol) (t : List Symbol) (d : Symbol) →
    symbol_of y (s ∷ t) d ≡ cond (name_is y s) s (symbol_of y t d)
unfolding symbol_of position_of
symbol_of_cons y s t d = go (name_is y s)
  where
    go : (b : Bool) → get_or (s ∷ t) (cond b 0 (position_of y t + 1)) d ≡ cond b s (get_or t (position_of y t) d)
    go true = refl
    go false = rw add-one

pub symbol_of_define : (y x v : ℕ) (t : List Symbol) (d : Symbol) →
    symbol_of y (define x v t) d ≡ cond (eqb x y) (symbol x v true) (symbol_of y t d)
unfolding define
symbol_of_define y x v [] d = symbol_of_cons y (symbol x v true) [] d
symbol_of_define y x v (s ∷ t) d =
    let new = symbol x v true in
    let rest = symbol_of y t d in
    cond_cases (λ (r : List Symbol). symbol_of y r d ≡ cond (eqb x y) new (symbol_of y (s ∷ t) d)) (name_is x s) _ _
    (λ e. simp (symbol_of_cons, eqb-true s.name x e) (here (eqb x y) new s rest))
    (λ e.
    simp (symbol_of_cons, symbol_of_define y x v t d)
    (there (eqb x y) (name_is y s) new s rest (λ q. rw (eqb-true x y q) at e)))
  where
    here : (b : Bool) (new s rest : Symbol) → cond b new rest ≡ cond b new (cond b s rest)
    here true new s rest = refl
    here false new s rest = refl

    there : (b n : Bool) (new s rest : Symbol) → (b ≡ true → n ≡ false) →
        cond n s (cond b new rest) ≡ cond b new (cond n s rest)
    there true n new s rest q = rw (q refl)
    there false n new s rest q = refl

pub symbol_of_mention : (y x : ℕ) (t : List Symbol) (d : Symbol) → is_symbol y t ≡ true →
    symbol_of y (mention x t) d ≡ symbol_of y t d
unfolding mention is_symbol any
symbol_of_mention y x [] d h = never h refl
symbol_of_mention y x (s ∷ t) d h =
    cond_cases (λ (r : List Symbol). symbol_of y r d ≡ symbol_of y (s ∷ t) d) (name_is x s) _ _
    (λ e. refl)
    (λ e. simp symbol_of_cons (go (name_is y s) (symbol_of_mention y x t d) h))
  where
    go : (b : Bool) {a r : Symbol} {c : Bool} → (c ≡ true → a ≡ r) → (b || c) ≡ true → cond b s a ≡ cond b s r
    go true q h = refl
    go false q h = q h

-- entries of other names change nothing at a name
pub symbol_of_others : (y base : ℕ) (es : List Entry) (t : List Symbol) (d : Symbol) → among y es ≡ false →
    symbol_of y (define_all base es t) d ≡ symbol_of y t d
unfolding define_all any
symbol_of_others y base [] t d h = refl
symbol_of_others y base (e ∷ es) t d h =
    let q = or_off (eqb y e.name) (among y es) h in
    symbol_of_others y base es (define e.name (value_at base e) t) d q.1
    ∙ rw (symbol_of_define, eqb_comm e.name y, q.0)

-- where no name stands twice, every entry gives its symbol its value
pub symbol_of_define_all : (base : ℕ) (es : List Entry) (t : List Symbol) (d : Symbol) →
    twice (map entry_name es) ≡ false →
    (k : ℕ) (e : Entry) → get_elem? es k ≡ some e →
    symbol_of e.name (define_all base es t) d ≡ symbol e.name (value_at base e) true
unfolding define_all twice
symbol_of_define_all base [] t d h k e q = never_none q
symbol_of_define_all base (f ∷ es) t d h zero e q =
    let same : f ≡ e = cc in
    let t' = define f.name (value_at base f) t in
    let new = symbol_of_others f.name base es t' d (or_off (among f.name es) (twice (map entry_name es)) h).0 in
    rw (← same) (new ∙ rw (symbol_of_define, eqb_same f.name))
symbol_of_define_all base (f ∷ es) t d h (suc k) e q =
    let once = (or_off (among f.name es) (twice (map entry_name es)) h).1 in
    symbol_of_define_all base es (define f.name (value_at base f) t) d once k e q

among_at : (es : List Entry) (k : ℕ) (e : Entry) → get_elem? es k ≡ some e → among e.name es ≡ true
among_at es k e q =
    any_map (eqb e.name) entry_name es ∙ any_at (λ f. eqb e.name f.name) es k e q (eqb_same e.name)

pub symbol_of_mention_all : (y : ℕ) (xs : List ℕ) (t : List Symbol) (d : Symbol) → is_symbol y t ≡ true →
    symbol_of y (mention_all xs t) d ≡ symbol_of y t d
unfolding mention_all
symbol_of_mention_all y [] t d h = refl
symbol_of_mention_all y (x ∷ xs) t d h =
    symbol_of_mention_all y xs (mention x t) d (rw (symbol_mention, h) (or-true (eqb x y))) ∙ symbol_of_mention y x t d h

-- after a module without a name twice, each of its entries is in the table, defined, with its value
pub symbol_of_entry : (base : ℕ) (m : Module) (t : List Symbol) (d : Symbol) → twice (entry_names m) ≡ false →
    (k : ℕ) (e : Entry) → get_elem? (entries m) k ≡ some e →
    symbol_of e.name (joined base m t) d ≡ symbol e.name (value_at base e) true
unfolding joined entry_names
symbol_of_entry base m t d h k e q =
    symbol_of_mention_all e.name (externals m) (define_all base (entries m) t) d
    (rw (symbol_define_all, among_at (entries m) k e q))
    ∙ symbol_of_define_all base (entries m) t d h k e q

-- and a symbol that is none of its entries stays as it was
pub symbol_of_other : (base : ℕ) (m : Module) (t : List Symbol) (d : Symbol) (y : ℕ) → is_symbol y t ≡ true →
    is_entry y m ≡ false →
    symbol_of y (joined base m t) d ≡ symbol_of y t d
unfolding joined is_entry entry_names
symbol_of_other base m t d y h n =
    symbol_of_mention_all y (externals m) (define_all base (entries m) t) d (rw (symbol_define_all, n) h)
    ∙ symbol_of_others y base (entries m) t d n

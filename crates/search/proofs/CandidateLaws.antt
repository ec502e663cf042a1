-- The candidates: marked for a name, for the undefined symbols from a position on, and after a module.
use Prim.Native.Nat.{ℕ, ◌+◌, ◌-◌, ◌≤◌, ◌<◌}
use Rattle.std.proofs.Common.{add-one}
use native.Mathlib.Decide.{ℕ_discrete}
use native.Mathlib.Omega.{arith}
use mathlib.Core.Bool.{Bool, true, false, not, ◌&&◌, ◌||◌}
use mathlib.Core.List.{List, [], ◌∷◌}
use mathlib.Core.Logic.{◌⊎◌, inl, inr, ◌≢◌}
use mathlib.Core.Path.{◌≡◌, refl, sym, ap, subst, ◌∙◌}
use lib.ListN.{length, get_or, set, drop, take, take-append-drop, drop_of_length-le}
use lib.Seq.{get_or-set_same, get_or-set_other, drop-cons, drop-drop}
use lib.Dec.{eqb}
use borrow.Author.Tests.{eqb-true, eqb-false, eq-eqb}
use Rattle.rules.specs.Text.{any}
use Rattle.rules.specs.Reading.{Module}
use Rattle.rules.specs.State.{Symbol, name_is, is_undefined}
use Rattle.rules.specs.Placing.{placing_fault, placed, joined}
use Rattle.rules.specs.Load.{refusal, Walk, walk, walking, entry_names, is_needed, try_place, place}
use Rattle.rules.proofs.BoolLaws.{never, or_off, eqb_same, any_append}
use Rattle.state.specs.Layout.{decode}
use Rattle.std.specs.Prelude.{Option, Some, None, MatchOption}
use Rattle.std.specs.Option.{is_some}
use Rattle.state.specs.Table.{no_symbol, Listing}
use Rattle.state.specs.declared.table.Listed.{Listed}
use Rattle.index.specs.Index.{named, owner_at, Found}
use Rattle.rules.specs.declared.answer.Refusal.{Refusal}
use Rattle.placing.specs.Walks.{Agrees, PlacedRow}
use Rattle.search.specs.declared.library.Library.{Library}
use Rattle.search.specs.Libraries.{module_of, LibraryOwns}
use Rattle.search.specs.Flags.{Marked, Candidates}
use Rattle.search.proofs.GrowthLaws.{or_more, undefined_grown}

-- ---- some name of a list passes a test

-- a test that every name of a list fails
any_off : (p : ℕ → Bool) (xs : List ℕ) → ((y : ℕ) → any (eqb y) xs ≡ true → p y ≡ false) → any p xs ≡ false
unfolding any
any_off p [] f = refl
any_off p (x ∷ xs) f =
    let here : (eqb x x || any (eqb x) xs) ≡ true = rw (eqb_same x) in
    rw (f x here) (any_off p xs (λ y h. f y (or_more (eqb y x) h)))

-- a name of a list fails a test that all of them fail
off_at : (p : ℕ → Bool) (xs : List ℕ) (y : ℕ) → any p xs ≡ false → any (eqb y) xs ≡ true → p y ≡ false
unfolding any
off_at p [] y h e = never e refl
off_at p (x ∷ xs) y h e = go (eqb y x) refl e (or_off (p x) (any p xs) h) (off_at p xs y)
  where
    go : (b : Bool) → eqb y x ≡ b → (b || any (eqb y) xs) ≡ true → (p x ≡ false) × (any p xs ≡ false) →
        (any p xs ≡ false → any (eqb y) xs ≡ true → p y ≡ false) → p y ≡ false
    go true s e o ih = ap p (eqb-true y x s) ∙ o.0
    go false s e o ih = ih o.1 e

-- ---- marked for a name

module _ {parts index : List ℕ} {name k : ℕ} (f : Found parts index name k) where
  -- its entry, under whatever name it is asked for
  same_entry : (y : ℕ) → eqb name y ≡ true → named parts index y ≡ k
  same_entry y e = ap (named parts index) (sym (eqb-true name y e)) ∙ sym f.is

  pub marked_none : {candidates : List Bool} → k ≡ 0 → Marked parts index (eqb name) candidates candidates
  marked_none z = record { kept = λ i e. e; told = λ y e n. absurd (n (same_entry y e ∙ z)) }

  pub marked_set : {candidates : List Bool} {o : ℕ} → o < length candidates → o ≡ owner_at index (k - 1) →
      Marked parts index (eqb name) candidates (set candidates o true)
  marked_set {candidates} {o} l q =
      record {
        kept = λ i e. elim (ℕ_discrete i o) [
          | yes s ↦ never (up i s) e
          | no s ↦ sym (get_or-set_other candidates o i true false s) ∙ e
        ];
        told = λ y e n. up _ (ap (λ j. owner_at index (j - 1)) (same_entry y e) ∙ sym q);
      }
    where
      up : (i : ℕ) → i ≡ o → get_or (set candidates o true) i false ≡ true
      up i s = ap (λ j. get_or (set candidates o true) j false) s ∙ get_or-set_same candidates o true false l

-- ---- marked for the undefined symbols from an index on

module _ (parts index : List ℕ) (t : List Symbol) (before : List Bool) where
  abbrev pub MarkedFrom : ℕ → List Bool → Type 0
  MarkedFrom j candidates = Marked parts index (λ x. is_undefined x (drop j t)) before candidates

  pub from_start : (j : ℕ) → length t ≤ j → MarkedFrom j before
  unfolding is_undefined any
  from_start j q = record { kept = λ i e. e; told = λ y e. never e (ap (is_undefined y) (drop_of_length-le t q)) }

  -- one index less: k goes to j
  module _ (j k : ℕ) (e : j + 1 ≡ k) (h : k ≤ length t) {candidates : List Bool} (v : MarkedFrom k candidates) where
    w : MarkedFrom (j + 1) candidates
    w = subst (λ i. MarkedFrom i candidates) (sym e) v

    abbrev here : Symbol
    here = get_or t j no_symbol

    undefined_next : (x : ℕ) →
        is_undefined x (drop j t) ≡ (name_is x here && not here.defined || is_undefined x (drop (j + 1) t))
    unfolding is_undefined any
    undefined_next x = ap (is_undefined x) (drop-cons t j no_symbol (omega (arith, e, h)) ∙ ap (λ k. here ∷ drop k t) (sym (add-one j)))

    pub from_defined : here.defined ≡ true → MarkedFrom j candidates
    from_defined d = record { kept = w.kept; told = λ y q. w.told y (off y q) }
      where
        go : (c b : Bool) (y : ℕ) → b ≡ true → (c && not b || is_undefined y (drop (j + 1) t)) ≡ true →
            is_undefined y (drop (j + 1) t) ≡ true
        go true true y q f = f
        go true false y q f = never q refl
        go false b y q f = f

        off : (y : ℕ) → is_undefined y (drop j t) ≡ true → is_undefined y (drop (j + 1) t) ≡ true
        off y q = go (name_is y here) here.defined y d (sym (undefined_next y) ∙ q)

    pub from_marked : {name : ℕ} → name ≡ here.name → {after : List Bool} → Marked parts index (eqb name) candidates after → MarkedFrom j after
    from_marked {name} same {after} u =
        record {
          kept = λ i q. w.kept i (u.kept i q);
          told = λ y q n. go y (name_is y here) here.defined refl (sym (undefined_next y) ∙ q) n;
        }
      where
        stays : (i : ℕ) (b : Bool) → get_or after i false ≡ b → get_or candidates i false ≡ true → b ≡ true
        stays i true q f = refl
        stays i false q f = never f (u.kept i q)

        go : (y : ℕ) (b c : Bool) → name_is y here ≡ b → (b && not c || is_undefined y (drop (j + 1) t)) ≡ true →
            named parts index y ≢ 0 → get_or after (owner_at index (named parts index y - 1)) false ≡ true
        go y true c q f n = u.told y (ap (λ x. eqb x y) same ∙ q) n
        go y false c q f n = stays _ _ refl (w.told y f n)

  pub from_end : (j from : ℕ) → j ≤ from → {candidates : List Bool} → MarkedFrom j candidates → MarkedFrom from candidates
  unfolding is_undefined
  from_end j from h w = record { kept = w.kept; told = λ y e. w.told y (on y e) }
    where
      on : (x : ℕ) → is_undefined x (drop from t) ≡ true → is_undefined x (drop j t) ≡ true
      on x e =
          let whole : from ≡ j + (from - j) = omega arith in
          let rest : drop from t ≡ drop (from - j) (drop j t) = ap (λ k. drop k t) whole ∙ sym (drop-drop (from - j) j t) in
          ap (is_undefined x) (sym (take-append-drop (from - j) (drop j t)))
          ∙ any_append _ (take (from - j) (drop j t)) (drop (from - j) (drop j t))
          ∙ or_more (is_undefined x (take (from - j) (drop j t))) (ap (is_undefined x) (sym rest) ∙ e)

-- a symbol that is listed with a value is defined
pub listed_defined : {s : Symbol} {r : Listed} → Listing s r → is_some r.value ≡ true → s.defined ≡ true
listed_defined {s} {r} h e = go r.value e h.value
  where
    go : (o : Option ℕ) → is_some o ≡ true → MatchOption o ((s.defined ≡ false) × (s.value ≡ 0)) (λ v. (s.defined ≡ true) × (v ≡ s.value)) → s.defined ≡ true
    go (Some v) e d = d.0
    go None e d = never e refl

-- ---- what a clear flag says

module _ (l : Library) where
  abbrev names_at : ℕ → List ℕ
  names_at i = entry_names (module_of l i)

  -- a name of a module whose flag is clear fails the test for which the flags were marked
  clear_fails : LibraryOwns l → {p : ℕ → Bool} {before candidates : List Bool} →
      Marked l.tables.parts.now l.index.now p before candidates → (i : ℕ) → i < l.section.count → get_or candidates i false ≡ false →
      (y : ℕ) → any (eqb y) (names_at i) ≡ true → p y ≡ false
  clear_fails o {p} {before} {candidates} w i few z y e = go (p y) refl
    where
      go : (b : Bool) → p y ≡ b → b ≡ false
      go true h =
          let it = o.owned i few y e in
          never (w.told y h it.there) (ap (λ k. get_or candidates k false) it.is ∙ z)
      go false h = refl

  -- at the start of a section
  pub candidates_start : {old : Refusal} {cells : List ℕ} {before candidates : List Bool} → LibraryOwns l →
      Marked l.tables.parts.now l.index.now (λ x. is_undefined x (drop 0 (decode cells).symbols)) before candidates →
      Candidates l old cells candidates
  unfolding is_needed
  candidates_start o w = record { owns = λ _. o; unneeded = λ z i few e. any_off _ (names_at i) (clear_fails o w i few e) }

  -- in a walk that is refused already
  pub candidates_refused : {old : Refusal} {cells : List ℕ} {candidates : List Bool} → old.number ≢ 0 → Candidates l old cells candidates
  candidates_refused f = record { owns = λ e. absurd (f e); unneeded = λ e. absurd (f e) }

  -- a module that was placed
  placed_symbols : {m : Module} {old : Refusal} {before : List ℕ} {r : Refusal} {after : List ℕ} → old.number ≡ 0 →
      PlacedRow m old before r after → r.number ≡ 0 →
      (decode after).symbols ≡ joined (decode before).next m (decode before).symbols
  unfolding place try_place placed
  placed_symbols {m} {old} {before} {r} {after} z p e = go (eqb (placing_fault (decode before) m) 0) refl
    where
      w : Walk
      w = walk old (decode before)

      does : Agrees (place w m) r after
      does = p.does w (record { refusal_is = refl; state_is = λ _. refl })

      tried : place w m ≡ try_place (decode before) m
      tried = rw (eq-eqb old.number 0 z)

      go : (b : Bool) → eqb (placing_fault (decode before) m) 0 ≡ b →
          (decode after).symbols ≡ joined (decode before).next m (decode before).symbols
      go true f =
          let done : try_place (decode before) m ≡ walking (placed (decode before) m) = rw f in
          ap (λ s. s.symbols) (does.state_is e ∙ ap (λ (v : Walk). v.state) (tried ∙ done))
      go false f =
          let told : try_place (decode before) m ≡ walk (refusal (placing_fault (decode before) m) m.line) (decode before) = rw f in
          absurd
          (eqb-false (placing_fault (decode before) m) 0 f
          (sym (ap (λ (v : Walk). v.refusal.number) (tried ∙ told)) ∙ sym (ap (λ (x : Refusal). x.number) does.refusal_is) ∙ e))

  -- after a module: its new symbols have marked the flags
  pub candidates_next : {m : Module} {old : Refusal} {before : List ℕ} {r : Refusal} {after : List ℕ} {candidates marked : List Bool} {known : ℕ} →
      old.number ≡ 0 → Candidates l old before candidates → PlacedRow m old before r after →
      known ≡ length (decode before).symbols →
      Marked l.tables.parts.now l.index.now (λ x. is_undefined x (drop known (decode after).symbols)) candidates marked →
      Candidates l r after marked
  unfolding is_needed
  candidates_next {m} {old} {before} {r} {after} {candidates} {marked} {known} z d p k v =
      record {
        owns = λ _. d.owns z;
        unneeded = λ e i few q. any_off _ (names_at i) (λ y h. go e i few q y h (is_undefined y (decode after).symbols) refl);
      }
    where
      grown : r.number ≡ 0 → (y : ℕ) → is_undefined y (decode after).symbols ≡ true →
          (is_undefined y (decode before).symbols ≡ true) ⊎ (is_undefined y (drop known (decode after).symbols) ≡ true)
      grown e y h =
          let u = placed_symbols z p e in
          subst
          (λ v. (is_undefined y (decode before).symbols ≡ true) ⊎ (is_undefined y (drop known v) ≡ true))
          (sym u)
          (subst
          (λ j. (is_undefined y (decode before).symbols ≡ true) ⊎ (is_undefined y (drop j (joined (decode before).next m (decode before).symbols)) ≡ true))
          (sym k)
          (undefined_grown (decode before).next m (decode before).symbols y (ap (is_undefined y) (sym u) ∙ h)))

      either : (i : ℕ) → i < l.section.count → get_or marked i false ≡ false → (y : ℕ) → any (eqb y) (names_at i) ≡ true →
          (is_undefined y (decode before).symbols ≡ true) ⊎ (is_undefined y (drop known (decode after).symbols) ≡ true) → {A : Type 0} → A
      either i few q y h (inl u) =
          never u (off_at (λ x. is_undefined x (decode before).symbols) (names_at i) y (d.unneeded z i few (v.kept i q)) h)
      either i few q y h (inr u) = never u (clear_fails (d.owns z) v i few q y h)

      go : r.number ≡ 0 → (i : ℕ) → i < l.section.count → get_or marked i false ≡ false → (y : ℕ) → any (eqb y) (names_at i) ≡ true →
          (b : Bool) → is_undefined y (decode after).symbols ≡ b → b ≡ false
      go e i few q y h true u = either i few q y h (grown e y u)
      go e i few q y h false u = refl

-- The pass over the entries: each turn in the words of the code.
use Prim.Native.Nat.{ℕ, ◌+◌, ◌/◌, ◌<◌, ◌≤◌}
use native.Mathlib.Omega.{arith}
use mathlib.Core.Bool.{Bool, true, false, cond, ◌||◌, or-true}
use mathlib.Core.List.{List, [], ◌∷◌, map}
use mathlib.Core.Path.{◌≡◌, refl, sym, ap, ap₂, ◌∙◌, subst}
use lib.ListN.{length}
use lib.Dec.{eqb, ltb, leb}
use borrow.Author.Tests.{lt-ltb, le-ltb, leb-false, ltb-false}
use Rattle.rules.specs.Text.{any}
use Rattle.rules.specs.State.{Symbol, is_defined, State}
use Rattle.rules.specs.Placing.{entries_in, entry_name, value_at, define, define_all, twice}
use Rattle.rules.specs.Calls.{with_symbols}
use Rattle.rules.specs.declared.line.Entry.{Entry}
use Rattle.rules.proofs.BoolLaws.{cond_cases, or_off}
use Rattle.rules.proofs.TableLaws.{defined_define}
use Rattle.rules.proofs.SoundLaws.{define_all_longer}
use Rattle.tables.specs.Tables.{low16}
use Rattle.state.specs.Layout.{decode}
use Rattle.state.specs.Good.{Good}
use Rattle.state.specs.Table.{Joined}
use Rattle.rules.specs.Answers.{reason_number}
use Rattle.rules.specs.declared.answer.Reason.{Reason}
use Rattle.rules.specs.declared.answer.Reason.TheVariants.{Duplicate}
use Rattle.rules.specs.declared.reading.Part.{Part}
use Rattle.std.specs.Prelude.{Result, Ok, Err, is_ok}
use Rattle.tables.specs.declared.iter.PartCells.{PartCells}
use Rattle.tables.specs.Iter.{part_at}
use Rattle.tables.specs.Heads.{names_in, is_entry, is_relocated, entry_of, value_of}
use Rattle.placing.specs.Passes.{over_range, is_over, repeated}
use Rattle.tables.proofs.HeadLaws.{entries_cons}
use Rattle.placing.proofs.PassLaws.{over_cons, repeated_cons}
use Rattle.placing.specs.Effects.{entered, entering_fault, Entered, Entering, EnteredPart}

-- ---- a name that is defined, or becomes defined, is a second one from there on

repeated_first : (t : List Symbol) (x : ℕ) (xs : List ℕ) → is_defined x t ≡ true → repeated t (x ∷ xs) ≡ true
unfolding twice any
repeated_first t x xs d = rw d (or-true (any (eqb x) xs || twice xs))

defined_any : (t : List Symbol) (x v : ℕ) (xs : List ℕ) →
    any (λ y. is_defined y (define x v t)) xs ≡ (any (eqb x) xs || any (λ y. is_defined y t) xs)
unfolding any
defined_any t x v [] = refl
defined_any t x v (y ∷ xs) =
    ap₂ ◌||◌ (defined_define y x v t) (defined_any t x v xs)
    ∙ go (eqb x y) (is_defined y t) (any (eqb x) xs) (any (λ z. is_defined z t) xs)
  where
    go : (a b c d : Bool) → (a || b || (c || d)) ≡ (a || c || (b || d))
    go true b c d = refl
    go false true c d = sym (or-true c)
    go false false c d = refl

repeated_define : (t : List Symbol) (x v : ℕ) (xs : List ℕ) → is_defined x t ≡ false →
    repeated (define x v t) xs ≡ repeated t (x ∷ xs)
unfolding twice any
repeated_define t x v xs d =
    ap (◌||◌ (twice xs)) (defined_any t x v xs)
    ∙ rw d (go (twice xs) (any (eqb x) xs) (any (λ y. is_defined y t) xs))
  where
    go : (a b c : Bool) → (a || (b || c)) ≡ (b || a || c)
    go true b c = sym (ap (λ e. e || c) (or-true b))
    go false true c = refl
    go false false c = refl

-- ---- one entry

-- an entry in range has a value of sixteen bits
value_fits : (base h : ℕ) → is_over base h ≡ false → value_of base h ≤ 65535
unfolding is_over value_of
value_fits base h e =
    cond_cases (λ v. v ≤ 65535) (is_relocated h) _ _
    (λ q. ltb-false 65535 (low16 (h / 8) + base) (rw q at e))
    (λ q. omega arith)

module _ (x : PartCells) (ps : List Part) where
  abbrev here : List Entry
  here = entries_in (part_at x ∷ ps)

  abbrev rest : List Entry
  rest = entries_in ps

  entries_next : here ≡ cond (is_entry x.head) (entry_of x.head x.body ∷ rest) rest
  entries_next = entries_cons x.head x.body ps

  module _ (base : ℕ) (o : any (over_range base) here ≡ false) where
    in_range : (is_over base x.head ≡ false) × (any (over_range base) rest ≡ false)
    in_range = or_off _ _ (sym (over_cons x ps base) ∙ o)

    pub value_small : {v : ℕ} → v ≡ value_of base x.head → v ≤ 65535
    value_small e = omega (arith, value_fits base x.head in_range.0)

    pub rest_in_range : any (over_range base) rest ≡ false
    rest_in_range = in_range.1

  module _ (base : ℕ) (state : List ℕ) (g : Good state) where
    pub enter_skip : is_entry x.head ≡ false → EnteredPart base here (decode state) rest (Ok tt) state
    enter_skip n =
        let same : here ≡ rest = entries_next ∙ rw n in
        record {
          good = g;
          stopped = tt;
          on = record { number = sym (ap (λ es. entering_fault base es (decode state)) same); entered_is = sym (ap (λ es. entered base es (decode state)) same) };
        }

    module _ (n : is_entry x.head ≡ true) where
      an_entry : here ≡ entry_of x.head x.body ∷ rest
      an_entry = entries_next ∙ rw n

      number_here : entering_fault base here (decode state) ≡ entering_fault base (entry_of x.head x.body ∷ rest) (decode state)
      number_here = ap (λ es. entering_fault base es (decode state)) an_entry

      pub enter_second : is_defined x.body (decode state).symbols ≡ true → EnteredPart base here (decode state) rest (Err Duplicate) state
      unfolding entry_of
      enter_second e =
          record {
            good = g;
            stopped = sym (number_here ∙ rw (repeated_first (decode state).symbols x.body (map entry_name rest) e));
            on = tt;
          }

      module _ (e : is_defined x.body (decode state).symbols ≡ false) {v : ℕ} (w : v ≡ value_of base x.head) (after : List ℕ) where
        abbrev wider : List Symbol
        wider = define x.body v (decode state).symbols

        -- the entry's value, as the definitions have it
        value_is : value_at base (entry_of x.head x.body) ≡ v
        unfolding value_at entry_of value_of
        value_is = sym w

        first : define_all base (entry_of x.head x.body ∷ rest) (decode state).symbols ≡ define_all base rest wider
        unfolding define_all entry_of
        first = ap (λ k. define_all base rest (define x.body k (decode state).symbols)) value_is

        pub enter_on : {y : Result (Unit {0}) Reason} → Joined wider (decode state) y after → is_ok y ≡ true → EnteredPart base here (decode state) rest (Ok tt) after
        unfolding entry_of
        enter_on j z =
            let room : leb (length wider) 256 ≡ true = sym j.room ∙ z in
            let is : decode after ≡ with_symbols wider (decode state) = j.holds.is ∙ rw room in
            record {
              good = j.holds.good;
              stopped = tt;
              on =
                  rw (is, an_entry)
                  (record {
                    number =
                        ap₂ (λ b l. cond b 13 (cond (ltb 256 (length l)) 14 0))
                        (repeated_define (decode state).symbols x.body v (map entry_name rest) e)
                        (sym first);
                    entered_is = ap (λ l. with_symbols l (decode state)) (sym first);
                  });
            }

        pub enter_full : {y : Result (Unit {0}) Reason} → Joined wider (decode state) y after → is_ok y ≡ false → {f : Reason} →
            reason_number f ≡ cond (any (eqb x.body) (names_in ps) || repeated (decode after).symbols (names_in ps)) 13 14 →
            EnteredPart base here (decode state) rest (Err f) after
        unfolding entry_of
        enter_full j z {f} u =
            let room : leb (length wider) 256 ≡ false = sym j.room ∙ z in
            let is : decode after ≡ decode state = j.holds.is ∙ rw room in
            let long : 256 < length (define_all base rest wider) =
            omega (arith, leb-false (length wider) 256 room, define_all_longer base rest wider) in
            let twice_here : repeated (decode state).symbols (x.body ∷ map entry_name rest) ≡ (any (eqb x.body) (map entry_name rest) || repeated (decode state).symbols (map entry_name rest)) = repeated_cons (decode state).symbols x.body (map entry_name rest) ∙ rw e in
            record {
              good = j.holds.good;
              stopped = u ∙ sym (number_here ∙ rw (twice_here, first, lt-ltb 256 _ long, is));
              on = tt;
            }

-- ---- the loop

module _ {base : ℕ} {whole : List Entry} {s₀ : State} where
  pub enter_next : {left rest : List PartCells} {x : PartCells} → left ≡ x ∷ rest → {s : State} →
      Entering base whole s₀ (entries_in (map part_at left)) s → {after : List ℕ} →
      EnteredPart base (entries_in (part_at x ∷ map part_at rest)) s (entries_in (map part_at rest)) (Ok tt) after →
      Entering base whole s₀ (entries_in (map part_at rest)) (decode after)
  enter_next h {s} from p =
      let l = subst (λ xs. Entering base whole s₀ (entries_in (map part_at xs)) s) h from in
      record { number = p.on.number ∙ l.number; entered_is = p.on.entered_is ∙ l.entered_is }

  pub enter_done : {left : List PartCells} → left ≡ [] → (state : List ℕ) → Good state →
      Entering base whole s₀ (entries_in (map part_at left)) (decode state) → Entered base whole s₀ (Ok tt) state
  unfolding entries_in define_all twice any
  enter_done h state g from =
      let e : Entering base whole s₀ [] (decode state) = subst (λ xs. Entering base whole s₀ (entries_in (map part_at xs)) (decode state)) h from in
      let room : ltb 256 (length (decode state).symbols) ≡ false = le-ltb 256 _ g.tidy.few in
      record { number = sym (rw room) ∙ e.number; good = g; done = e.entered_is }

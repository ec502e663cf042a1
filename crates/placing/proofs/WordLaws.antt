-- The passes over the code words: each turn in the words of the code, and what they come to.
use Prim.Native.Nat.{ℕ, ◌+◌, ◌-◌, ◌≤◌}
use native.Mathlib.Omega.{arith}
use mathlib.Core.Bool.{Bool, true, false, cond, ◌||◌}
use mathlib.Core.List.{List, [], ◌∷◌, map}
use mathlib.Core.Path.{◌≡◌, refl, sym, ap, ap₂, subst, ◌∙◌}
use lib.ListN.{get_or, set, get_or-map}
use lib.Dec.{eqb, ltb}
use borrow.Author.Tests.{ltb-false, eqb-false}
use Rattle.rules.specs.Text.{any}
use Rattle.rules.specs.State.{Word, unplaced, plain, refers, is_placed, State}
use Rattle.rules.specs.Placing.{Code, code_in}
use Rattle.rules.specs.declared.reading.Part.{Part}
use Rattle.rules.proofs.BoolLaws.{or_off}
use Rattle.rules.proofs.OverlapLaws.{clash}
use Rattle.rules.specs.declared.answer.Reason.TheVariants.{Overlap}
use Rattle.std.specs.Prelude.{Ok, Err}
use Rattle.tables.specs.declared.iter.PartCells.{PartCells}
use Rattle.tables.specs.Iter.{part_at}
use Rattle.state.specs.Layout.{decode}
use Rattle.state.specs.Good.{Good, Holds, with_words}
use Rattle.state.proofs.ListLaws.{map_set}
use Rattle.tables.specs.Heads.{is_word, address_of, argument_of, is_reference, code_of}
use Rattle.placing.specs.Passes.{bad_code, is_bad}
use Rattle.tables.proofs.HeadLaws.{part_cases, code_cons}
use Rattle.placing.proofs.PassLaws.{bad_cons}
use Rattle.placing.specs.Effects.{plain_all, Laid, Laying, relink, link_at, relinked, Linking}

-- ---- what is placed is all that a clash looks at

same_places : (ws vs : List Word) (i : ℕ) (v w : Word) → map is_placed ws ≡ map is_placed vs →
    is_placed v ≡ is_placed w → map is_placed (set ws i v) ≡ map is_placed (set vs i w)
same_places ws vs i v w e p =
    map_set is_placed i v ws ∙ ap₂ (λ l b. set l i b) e p ∙ sym (map_set is_placed i w vs)

same_place : (ws vs : List Word) (i : ℕ) → map is_placed ws ≡ map is_placed vs →
    is_placed (get_or ws i unplaced) ≡ is_placed (get_or vs i unplaced)
same_place ws vs i e =
    sym (get_or-map is_placed ws i unplaced) ∙ ap (λ l. get_or l i false) e ∙ get_or-map is_placed vs i unplaced

clash_same : (base : ℕ) (cs : List Code) (ws vs : List Word) → map is_placed ws ≡ map is_placed vs →
    clash base cs ws ≡ clash base cs vs
unfolding clash
clash_same base [] ws vs e = refl
clash_same base (c ∷ cs) ws vs e =
    let i : ℕ = base + c.address in
    ap₂ ◌||◌ (same_place ws vs i e)
    (clash_same base cs (set ws i (plain 0)) (set vs i (plain 0)) (same_places ws vs i (plain 0) (plain 0) e refl))

pub clash_cons : (base : ℕ) (c : Code) (cs : List Code) (ws : List Word) (w : Word) → is_placed w ≡ true →
    clash base (c ∷ cs) ws
    ≡ (is_placed (get_or ws (base + c.address) unplaced) || clash base cs (set ws (base + c.address) w))
unfolding clash
clash_cons base c cs ws w p =
    let i : ℕ = base + c.address in
    ap (λ b. is_placed (get_or ws i unplaced) || b)
    (clash_same base cs (set ws i (plain 0)) (set ws i w) (same_places ws ws i (plain 0) w refl (sym p)))

-- ---- laying the words

-- the table is not touched
pub lay_table : {base : ℕ} {whole rest : List Code} {s₀ s : State} → Laying base whole s₀ rest s → s.symbols ≡ s₀.symbols
lay_table l = ap (λ (v : State). v.symbols) l.laid_is

module _ (base : ℕ) (whole : List Code) (s₀ : State) where
  module _ {left rest : List PartCells} {x : PartCells} (h : left ≡ x ∷ rest) (s : State) (from : Laying base whole s₀ (code_in (map part_at left)) s) where
    abbrev ps : List Part
    ps = map part_at rest

    l : Laying base whole s₀ (code_in (part_at x ∷ ps)) s
    l = subst (λ xs. Laying base whole s₀ (code_in (map part_at xs)) s) h from

    pub lay_skip : is_word x.head ≡ false → Laying base whole s₀ (code_in ps) s
    lay_skip k = subst (λ cs. Laying base whole s₀ cs s) (code_cons x.head x.body ps ∙ rw k) l

    module _ (k : is_word x.head ≡ true) (d : ℕ) (e : d ≡ address_of x.head) (r : Bool) (q : r ≡ is_placed (get_or s.words (base + d) unplaced)) where
      here : Laying base whole s₀ (code_of x.head x.body ∷ code_in ps) s
      here = subst (λ cs. Laying base whole s₀ cs s) (code_cons x.head x.body ps ∙ rw k) l

      clash_here : clash base whole s₀.words
          ≡ (r || clash base (code_in ps) (set s.words (base + d) (plain x.body)))
      unfolding code_of
      clash_here =
          sym here.clash_is
          ∙ clash_cons base (code_of x.head x.body) (code_in ps) s.words (plain x.body) refl
          ∙ rw (← e, ← q)

      pub lay_clash : r ≡ true → {state : List ℕ} → Good state → s ≡ decode state → Laid base whole s₀ (Err Overlap) state
      lay_clash t g is =
          record {
            clash_is = sym (clash_here ∙ rw t);
            reason = refl;
            good = g;
            table_is = ap (λ (v : State). v.symbols) (sym is) ∙ lay_table l;
            done = tt;
          }

      pub lay_put : r ≡ false → (s' : State) → s' ≡ with_words (set s.words (base + d) (plain x.body)) s →
          Laying base whole s₀ (code_in ps) s'
      unfolding plain_all code_of
      lay_put f s' u =
          subst (Laying base whole s₀ (code_in ps)) (sym u)
          (record {
            clash_is = sym (clash_here ∙ rw f);
            laid_is = rw e here.laid_is;
          })

  pub lay_done : {left : List PartCells} → left ≡ [] → (state : List ℕ) → Good state →
      Laying base whole s₀ (code_in (map part_at left)) (decode state) → Laid base whole s₀ (Ok tt) state
  unfolding code_in plain_all clash
  lay_done h state g from =
      let e : Laying base whole s₀ [] (decode state) = subst (λ xs. Laying base whole s₀ (code_in (map part_at xs)) (decode state)) h from in
      record { clash_is = e.clash_is; reason = tt; good = g; table_is = lay_table e; done = e.laid_is }

-- ---- linking the words

module _ (base : ℕ) (at : List ℕ) where
  link_cons : (x : PartCells) (qs : List Part) (ws : List Word) →
      link_at base at (code_in (part_at x ∷ qs)) ws
      ≡ link_at base at (code_in qs)
      (cond (is_reference x.head) (set ws (base + address_of x.head) (refers x.body (get_or at (argument_of x.head - 1) 0))) ws)
  unfolding code_in link_at relink
  link_cons x qs ws =
      part_cases x.head x.body
      (λ p.
      link_at base at (code_in (p ∷ qs)) ws
      ≡ link_at base at (code_in qs)
      (cond (is_reference x.head) (set ws (base + address_of x.head) (refers x.body (get_or at (argument_of x.head - 1) 0))) ws))
      (λ e. rw e) (λ e. rw e) (λ e. rw e) (λ e. rw e) (λ e. rw e) (λ e. rw e) (λ e. rw e) (λ e. rw e)

  module _ (n : ℕ) (whole : List Code) (s₀ : State) where
    module _ {left rest : List PartCells} {x : PartCells} (h : left ≡ x ∷ rest) (s : State)
        (from : Linking base n at whole s₀ (code_in (map part_at left)) s) where
      abbrev qs : List Part
      qs = map part_at rest

      turn : Linking base n at whole s₀ (code_in (part_at x ∷ qs)) s
      turn = subst (λ xs. Linking base n at whole s₀ (code_in (map part_at xs)) s) h from

      good_numbers : (is_bad n x.head ≡ false) × (any (bad_code n) (code_in qs) ≡ false)
      good_numbers = or_off _ _ (sym (bad_cons x qs n) ∙ turn.arguments)

      pub link_skip : is_reference x.head ≡ false → Linking base n at whole s₀ (code_in qs) s
      link_skip k =
          record {
            relinked_is = ap (λ ws. with_words ws s) (sym (link_cons x qs s.words ∙ rw k)) ∙ turn.relinked_is;
            table_is = turn.table_is;
            arguments = good_numbers.1;
          }

      module _ (k : is_reference x.head ≡ true) (number : ℕ) (e : number ≡ argument_of x.head) where
        pub link_number : (1 ≤ number) × (number ≤ n)
        unfolding is_bad
        link_number =
            let q = or_off (eqb (argument_of x.head) 0) (ltb n (argument_of x.head)) (rw k at good_numbers.0) in
            (omega (arith, eqb-false (argument_of x.head) 0 q.0), omega (arith, ltb-false n (argument_of x.head) q.1))

        pub link_put : (d : ℕ) → d ≡ address_of x.head → (s' : State) →
            s' ≡ with_words (set s.words (base + d) (refers x.body (get_or at (number - 1) 0))) s →
            Linking base n at whole s₀ (code_in qs) s'
        link_put d q s' u =
            subst (Linking base n at whole s₀ (code_in qs)) (sym u)
            (record {
              relinked_is =
                  ap (λ ws. with_words ws s) (sym (link_cons x qs s.words ∙ rw (k, ← e, ← q))) ∙ turn.relinked_is;
              table_is = turn.table_is;
              arguments = good_numbers.1;
            })

    pub link_done : {left : List PartCells} → left ≡ [] → (state : List ℕ) → Good state →
        Linking base n at whole s₀ (code_in (map part_at left)) (decode state) → Holds state (relinked base at whole s₀)
    unfolding code_in link_at
    link_done h state g from =
        let e : Linking base n at whole s₀ [] (decode state) = subst (λ xs. Linking base n at whole s₀ (code_in (map part_at xs)) (decode state)) h from in
        record { good = g; is = e.relinked_is }

-- The passes, one after the other, are the placing of a module.
use Prim.Native.Nat.{ℕ, ◌+◌, ◌<◌, ◌≤◌}
use native.Mathlib.Omega.{arith}
use mathlib.Core.Bool.{Bool, true, false, cond}
use mathlib.Core.List.{List}
use mathlib.Core.Logic.{◌≢◌}
use mathlib.Core.Path.{◌≡◌, refl, sym, ap, ap₂, subst, ◌∙◌}
use lib.ListN.{length, get_or, take}
use lib.Dec.{ltb, leb}
use borrow.Author.Tests.{lt-ltb, le-ltb, leb-true, leb-false, ltb-true, ltb-false}
use Rattle.rules.specs.Text.{all, any}
use Rattle.rules.specs.Reading.{Module, module_at}
use Rattle.rules.specs.State.{Symbol, State, state}
use Rattle.rules.specs.Placing.{entries_in, externals_in, code_in, length_in, define_all, mention_all, joined, put_all, no_room, overlaps, bad_arguments, out_of_range, duplicates, table_full, placing_fault, placed}
use Rattle.rules.specs.declared.reading.Part.{Part}
use Rattle.rules.proofs.TestLaws.{all_weaken}
use Rattle.rules.proofs.PartLaws.{code_below}
use Rattle.rules.proofs.ReadingLaws.{ModuleSound}
use Rattle.rules.proofs.OverlapLaws.{clash, below, clash_overlap}
use Rattle.rules.proofs.SoundLaws.{mention_all_longer}
use Rattle.state.specs.Layout.{decode}
use Rattle.state.specs.Good.{Good, Holds, with_next}
use Rattle.tables.specs.Heads.{names_in}
use Rattle.placing.specs.Passes.{bad_code, over_range, repeated}
use Rattle.placing.specs.Effects.{laid, Laid, Linkable, relinked, link_at, plain_all, entered, entering_fault, Entered, mentioned, positions_of, Mentioned, Tried}
use Rattle.rules.specs.Answers.{reason_number, answer_number}
use Rattle.rules.specs.declared.answer.Reason.{Reason}
use Rattle.std.specs.Prelude.{Result, Ok, Err, is_ok}
use Rattle.placing.proofs.ReasonLaws.{refuses}
use Rattle.placing.proofs.LinkLaws.{position_at, position_there, link_laid}

-- the tests, at a base
faults : ℕ → State → List Part → ℕ
faults base s ps =
    let t = mention_all (externals_in ps) (define_all base (entries_in ps) s.symbols) in
    cond (ltb 4096 (base + length_in ps)) 9
    (cond (clash base (code_in ps) s.words) 10
    (cond (any (bad_code (length (externals_in ps))) (code_in ps)) 11
    (cond (any (over_range base) (entries_in ps)) 12 (cond (repeated s.symbols (names_in ps)) 13 (cond (ltb 256 (length t)) 14 0)))))

-- where there is room, test 10 word by word is the definition's
module _ (s : State) (ps : List Part) (sound : ModuleSound (module_at 0 ps)) (full : length s.words ≡ 4096) where
  words_inside : s.next + length_in ps ≤ 4096 → all (below s.next (length s.words)) (code_in ps) ≡ true
  unfolding below
  words_inside h =
      all_weaken (code_below (length_in ps)) (below s.next (length s.words))
      (λ c k. lt-ltb (s.next + c.address) (length s.words) (omega (arith, ltb-true c.address (length_in ps) k)))
      (code_in ps)
      sound.below

  faults_are : faults s.next s ps ≡ placing_fault s (module_at 0 ps)
  unfolding faults placing_fault no_room overlaps bad_arguments out_of_range duplicates table_full joined
  faults_are = go (ltb 4096 (s.next + length_in ps)) refl
    where
      go : (t : Bool) → ltb 4096 (s.next + length_in ps) ≡ t → faults s.next s ps ≡ placing_fault s (module_at 0 ps)
      go true e = rw e
      go false e = rw (clash_overlap s.next (code_in ps) s.words (words_inside (ltb-false 4096 (s.next + length_in ps) e)))

module _ (s : State) (ps : List Part) (sound : ModuleSound (module_at 0 ps)) (full : length s.words ≡ 4096) {base : ℕ} (b : base ≡ s.next) where
  abbrev m : Module
  m = module_at 0 ps

  fault_is : faults base s ps ≡ placing_fault s m
  fault_is = ap (λ k. faults k s ps) b ∙ faults_are s ps sound full

  refused : {r : ℕ} {after : List ℕ} → Good after → (r ≡ 0 → ⊥) → r ≤ 14 → faults base s ps ≡ r → Tried s m r after
  refused g n k e = record { number = sym e ∙ fault_is; most = k; good = g; done = λ z. absurd (n z) }

  module _ {size : ℕ} (l : size ≡ length_in ps) where
    pub no_room_lem : {after : List ℕ} → Good after → 4096 < base + size → Tried s m 9 after
    unfolding faults
    no_room_lem g k =
        refused g (λ z. omega arith) (omega arith) (rw (lt-ltb 4096 (base + length_in ps) (omega arith)))

    module _ (k : base + size ≤ 4096) where
      room : ltb 4096 (base + length_in ps) ≡ false
      room = le-ltb 4096 (base + length_in ps) (omega arith)

      pub placed_twice : {r : Reason} {after : List ℕ} → Laid base (code_in ps) s (Err r) after → Tried s m (reason_number r) after
      unfolding faults
      placed_twice {r} {after} p =
          subst (λ (e : Reason). Tried s m (reason_number e) after) (sym p.reason)
          (refused p.good (λ z. omega arith) (omega arith) (rw (room, sym p.clash_is)))

      module _ {st₁ : List ℕ} (p : Laid base (code_in ps) s (Ok tt) st₁) where
        apart : clash base (code_in ps) s.words ≡ false
        apart = sym p.clash_is

        module _ {n : ℕ} (c : n ≡ length (externals_in ps)) {a : Bool} (q : a ≡ any (bad_code n) (code_in ps)) where
          arguments_are : a ≡ any (bad_code (length (externals_in ps))) (code_in ps)
          arguments_are = q ∙ ap (λ i. any (bad_code i) (code_in ps)) c

          pub bad_argument_lem : a ≡ true → Tried s m 11 st₁
          unfolding faults
          bad_argument_lem f =
              refused p.good (λ z. omega arith) (omega arith) (rw (room, apart, sym arguments_are ∙ f))

          module _ (f : a ≡ false) {o : Bool} (u : o ≡ any (over_range base) (entries_in ps)) where
            pub over_range_lem : o ≡ true → Tried s m 12 st₁
            unfolding faults
            over_range_lem v =
                refused p.good (λ z. omega arith) (omega arith)
                (rw (room, apart, sym arguments_are ∙ f, sym u ∙ v))

            module _ (v : o ≡ false) {d : Result (Unit {0}) Reason} {st₂ : List ℕ} (x : Entered base (entries_in ps) (decode st₁) d st₂) where
              -- the faults that are left
              last_faults : faults base s ps
                  ≡ cond (repeated s.symbols (names_in ps)) 13
                  (cond (ltb 256 (length (mention_all (externals_in ps) (define_all base (entries_in ps) s.symbols)))) 14 0)
              unfolding faults
              last_faults = rw (room, apart, sym arguments_are ∙ f, sym u ∙ v)

              entering : answer_number d ≡ entering_fault base (entries_in ps) s
              entering = x.number ∙ ap (entering_fault base (entries_in ps)) p.done

              entry_stops : answer_number d ≢ 0 → Tried s m (answer_number d) st₂
              entry_stops z =
                  let es = entries_in ps in
                  let xs = externals_in ps in
                  let t = define_all base es s.symbols in
                  let h =
                  stopped (repeated s.symbols (names_in ps)) (ltb 256 (length t)) (ltb 256 (length (mention_all xs t)))
                  (λ i. lt-ltb 256 (length (mention_all xs t)) (omega (arith, ltb-true 256 (length t) i, mention_all_longer xs t)))
                  entering
                  z in
                  refused x.good z h.1 (last_faults ∙ h.0)
                where
                  -- a table that is full with the entries is full with the externals too
                  stopped : (r f g : Bool) {d : ℕ} → (f ≡ true → g ≡ true) → d ≡ cond r 13 (cond f 14 0) → d ≢ 0 →
                      (cond r 13 (cond g 14 0) ≡ d) × (d ≤ 14)
                  stopped true f g i q z = (sym q, omega arith)
                  stopped false true g i q z = (rw (i refl) (sym q), omega arith)
                  stopped false false g i q z = absurd (z q)

            pub entry_fault : (v : o ≡ false) {r : Reason} {st₂ : List ℕ} → Entered base (entries_in ps) (decode st₁) (Err r) st₂ → Tried s m (reason_number r) st₂
            entry_fault v {r} x = entry_stops v x (refuses r)

            module _ (v : o ≡ false) {st₂ : List ℕ} (x : Entered base (entries_in ps) (decode st₁) (Ok tt) st₂) where
              module _ {w : Result (List ℕ) Reason} {st₃ : List ℕ} (y : Mentioned (externals_in ps) (decode st₂) w st₃) where
                -- no name stands twice
                single : repeated s.symbols (names_in ps) ≡ false
                single = go (repeated s.symbols (names_in ps)) _ (sym (entering v x))
                  where
                    go : (r : Bool) (n : ℕ) → cond r 13 n ≡ 0 → r ≡ false
                    go true n q = absurd (omega arith)
                    go false n q = refl

                state₂ : decode st₂ ≡ entered base (entries_in ps) (laid base (code_in ps) s)
                state₂ = x.done ∙ ap (entered base (entries_in ps)) p.done

                room_is : is_ok w ≡ leb (length (mention_all (externals_in ps) (define_all base (entries_in ps) s.symbols))) 256
                room_is = y.room_is ∙ ap (λ (v : State). leb (length (mention_all (externals_in ps) v.symbols)) 256) state₂

              pub table_full_lem : {r : Reason} {st₃ : List ℕ} → Mentioned (externals_in ps) (decode st₂) (Err r) st₃ → Tried s m (reason_number r) st₃
              table_full_lem {r} {st₃} y =
                  let t = mention_all (externals_in ps) (define_all base (entries_in ps) s.symbols) in
                  let long : 256 < length t = leb-false (length t) 256 (sym (room_is y)) in
                  subst (λ (e : Reason). Tried s m (reason_number e) st₃) (sym y.full)
                  (refused y.good (λ z. omega arith) (omega arith) (last_faults v x ∙ rw (single y, lt-ltb 256 (length t) long)))

              module _ {at : List ℕ} {st₃ : List ℕ} (y : Mentioned (externals_in ps) (decode st₂) (Ok at) st₃) where
                abbrev table : List Symbol
                table = mention_all (externals_in ps) (define_all base (entries_in ps) s.symbols)

                state₃ : decode st₃ ≡ mentioned (externals_in ps) (entered base (entries_in ps) (laid base (code_in ps) s))
                state₃ = y.done ∙ ap (mentioned (externals_in ps)) (state₂ y)

                positions_are : take (length (externals_in ps)) at ≡ positions_of (externals_in ps) (define_all base (entries_in ps) s.symbols)
                positions_are = y.positions ∙ ap (λ (v : State). positions_of (externals_in ps) v.symbols) (state₂ y)

                pub can_link : length (externals_in ps) ≤ 64 → Linkable (length (externals_in ps)) (code_in ps) at (decode st₃)
                can_link few =
                    record {
                      few = few;
                      arguments = sym arguments_are ∙ f;
                      there =
                          λ k h.
                          subst (λ (v : State). get_or at k 0 < length v.symbols) (sym state₃)
                          (position_there (externals_in ps) (define_all base (entries_in ps) s.symbols) at positions_are k h);
                    }

                pub all_done : {st₄ st₅ : List ℕ} → Holds st₄ (relinked base at (code_in ps) (decode st₃)) →
                    Holds st₅ (with_next (base + size) (decode st₄)) → Tried s m 0 st₅
                unfolding placed joined
                all_done {st₄} {st₅} h₄ h₅ =
                    let words : link_at base at (code_in ps) (plain_all base (code_in ps) s.words) ≡ put_all base (externals_in ps) table (code_in ps) s.words =
                    link_laid base (externals_in ps) table at
                    (position_at (externals_in ps) (define_all base (entries_in ps) s.symbols) at positions_are)
                    (code_in ps)
                    s.words
                    apart
                    (sym arguments_are ∙ f) in
                    let fits : length table ≤ 256 = leb-true (length table) 256 (sym (room_is y)) in
                    let next : base + size ≡ base + length_in ps = ap (λ k. base + k) l in
                    record {
                      number = sym (last_faults v x ∙ rw (single y, le-ltb 256 (length table) fits)) ∙ fault_is;
                      most = omega arith;
                      good = h₅.good;
                      done =
                          λ _.
                          h₅.is
                          ∙ ap (with_next (base + size)) (h₄.is ∙ ap (relinked base at (code_in ps)) state₃)
                          ∙ ap₂ (λ ws k. state table ws k s.mark) words next
                          ∙ rw b;
                    }

-- a module's line does not matter
pub any_line : {s : State} {n k : ℕ} {ps : List Part} {r : ℕ} {after : List ℕ} → Tried s (module_at n ps) r after →
    Tried s (module_at k ps) r after
unfolding placing_fault placed no_room overlaps bad_arguments out_of_range duplicates table_full joined
any_line t = record { number = t.number; most = t.most; good = t.good; done = t.done }

-- The pass over the externals: each turn in the words of the code, and the positions that it remembers.
use Prim.Native.Nat.{ℕ, ◌+◌, ◌<◌, ◌≤◌}
use native.Mathlib.Numerals.{add-one}
use native.Mathlib.Omega.{arith}
use mathlib.Core.Bool.{true, false}
use mathlib.Core.List.{List, [], ◌∷◌, ◌++◌, map, append_assoc, append-nil}
use mathlib.Core.Path.{◌≡◌, sym, ap, ap₂, subst, ◌∙◌}
use lib.ListN.{length, set, take, length-set}
use lib.Seq.{take-suc-set}
use lib.Dec.{leb}
use borrow.Author.Tests.{leb-false, le-leb, lt-leb}
use Rattle.rules.specs.State.{State}
use Rattle.rules.specs.Placing.{externals_in, mention, mention_all}
use Rattle.rules.specs.Calls.{with_symbols}
use Rattle.rules.proofs.SoundLaws.{mention_all_longer}
use Rattle.state.specs.Layout.{decode}
use Rattle.state.specs.Good.{Good}
use Rattle.state.specs.Table.{MentionedAt}
use Rattle.state.proofs.TableLaws.{joined_holds}
use Rattle.rules.specs.declared.answer.Reason.{Reason}
use Rattle.rules.specs.declared.reading.Part.{Part}
use Rattle.std.specs.Prelude.{Ok, Err}
use Rattle.tables.specs.declared.iter.PartCells.{PartCells}
use Rattle.tables.specs.Heads.{is_external}
use Rattle.tables.specs.Iter.{part_at}
use Rattle.tables.proofs.HeadLaws.{externals_cons}
use Rattle.placing.specs.Effects.{mentioned, positions_of, Mentioned, Mentioning}

module _ (whole : List ℕ) (s₀ : State) (at : List ℕ) (n : ℕ) where
  module _ {left behind : List PartCells} {x : PartCells} (h : left ≡ x ∷ behind) (s : State)
      (from : Mentioning whole s₀ n at (externals_in (map part_at left)) s) where
    abbrev ps : List Part
    ps = map part_at behind

    abbrev rest : List ℕ
    rest = externals_in ps

    l : Mentioning whole s₀ n at (externals_in (part_at x ∷ ps)) s
    l = subst (λ xs. Mentioning whole s₀ n at (externals_in (map part_at xs)) s) h from

    pub mention_skip : is_external x.head ≡ false → Mentioning whole s₀ n at rest s
    mention_skip k = subst (λ xs. Mentioning whole s₀ n at xs s) (externals_cons x.head x.body ps ∙ rw k) l

    module _ (k : is_external x.head ≡ true) where
      here : Mentioning whole s₀ n at (x.body ∷ rest) s
      here = subst (λ xs. Mentioning whole s₀ n at xs s) (externals_cons x.head x.body ps ∙ rw k) l

      pub mention_index : length whole ≤ 64 → n < 64
      mention_index m = omega (arith, here.count)

      -- the table afterwards, as the rest goes on from it
      whole_is : mention_all whole s₀.symbols ≡ mention_all rest (mention x.body s.symbols)
      unfolding mention_all
      whole_is = sym (ap (λ (v : State). v.symbols) here.mentioned_is)

      pub mention_full : {e : Reason} {after : List ℕ} → MentionedAt x.body s (Err e) after → Mentioned whole s₀ (Err e) after
      mention_full m =
          let t = mention x.body s.symbols in
          let long : 256 < length (mention_all rest t) =
          omega (arith, leb-false (length t) 256 (sym m.joined.room), mention_all_longer rest t) in
          record {
            room_is = sym (rw whole_is (lt-leb (length (mention_all rest t)) 256 long));
            full = m.joined.full;
            good = m.joined.holds.good;
            done = tt;
            positions = tt;
          }

      pub mention_put : {position : ℕ} {after : List ℕ} → MentionedAt x.body s (Ok position) after → length whole ≤ 64 →
          Mentioning whole s₀ (n + 1) (set at n position) rest (decode after)
      unfolding positions_of mention_all
      mention_put {position} {after} m few =
          let t = mention x.body s.symbols in
          let is : decode after ≡ with_symbols t s = (joined_holds m.joined).is in
          let inside : n < length at = omega (arith, mention_index few, l.long) in
          record {
            long = length-set at n position ∙ l.long;
            count = omega (arith, here.count);
            positions =
                ap₂ ◌++◌
                (ap (λ k. take k (set at n position)) (add-one n) ∙ take-suc-set at n position inside)
                (ap (λ (v : State). positions_of rest v.symbols) is)
                ∙ append_assoc (take n at) (position ∷ []) (positions_of rest t)
                ∙ ap (λ p. take n at ++ (p ∷ positions_of rest t)) m.at.1
                ∙ here.positions;
            mentioned_is = ap (mentioned rest) is ∙ here.mentioned_is;
          }

  pub mention_done : {left : List PartCells} → left ≡ [] → (state : List ℕ) → Good state →
      Mentioning whole s₀ n at (externals_in (map part_at left)) (decode state) → Mentioned whole s₀ (Ok at) state
  unfolding externals_in positions_of mention_all
  mention_done h state g from =
      let e : Mentioning whole s₀ n at [] (decode state) = subst (λ xs. Mentioning whole s₀ n at (externals_in (map part_at xs)) (decode state)) h from in
      let table : (decode state).symbols ≡ mention_all whole s₀.symbols = ap (λ (v : State). v.symbols) e.mentioned_is in
      let all_of_them : n ≡ length whole = omega (arith, e.count) in
      record {
        room_is = sym (ap (λ t. leb (length t) 256) (sym table) ∙ le-leb (length (decode state).symbols) 256 g.tidy.few);
        full = tt;
        good = g;
        done = e.mentioned_is;
        positions = ap (λ k. take k at) (sym all_of_them) ∙ sym (append-nil (take n at)) ∙ e.positions;
      }

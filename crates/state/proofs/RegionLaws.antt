-- Five lists behind each other, of 4, 256, 256, 4,096 and more cells: reading and changing a cell of each.
use Prim.Native.Nat.{ℕ, zero, suc, ◌+◌, ◌-◌, ◌<◌}
use mathlib.Core.Bool.{Bool, true, false}
use mathlib.Core.List.{List, ◌++◌}
use mathlib.Core.Path.{◌≡◌, refl, ap, subst, ◌∙◌}
use native.Mathlib.Omega.{arith}
use lib.ListN.{length, get_or, set, length-append, get_or-append}
use lib.Seq.{set-append_left}
use lib.Dec.{ltb}
use borrow.Author.Tests.{ltb-true, ltb-false}
use Rattle.state.proofs.ListLaws.{set_behind, get_or_behind}

abbrev pub flat : List ℕ → List ℕ → List ℕ → List ℕ → List ℕ → List ℕ
flat h ns vs ts gs = h ++ (ns ++ (vs ++ (ts ++ gs)))

module _ (h ns vs ts gs : List ℕ) (lh : length h ≡ 4) where
  pub length_flat : length (flat h ns vs ts gs) ≡ 4 + (length ns + (length vs + (length ts + length gs)))
  length_flat = simp (length-append, lh)

  module _ (ln : length ns ≡ 256) where
    pub at_name : (i : ℕ) → i < 256 → get_or (flat h ns vs ts gs) (4 + i) 0 ≡ get_or ns i 0
    at_name i b =
        get_or_behind h (ns ++ (vs ++ (ts ++ gs))) i (4 + i) 0 (omega arith)
        ∙ get_or-append ns (vs ++ (ts ++ gs)) 0 i (omega arith)

    pub set_name : (i v : ℕ) → i < 256 → set (flat h ns vs ts gs) (4 + i) v ≡ flat h (set ns i v) vs ts gs
    set_name i v b =
        set_behind h (ns ++ (vs ++ (ts ++ gs))) i (4 + i) v (omega arith)
        ∙ ap (λ (l : List ℕ). h ++ l) (set-append_left ns (vs ++ (ts ++ gs)) i v (omega arith))

    past_names : (i : ℕ) → get_or (flat h ns vs ts gs) (260 + i) 0 ≡ get_or (vs ++ (ts ++ gs)) i 0
    past_names i =
        get_or_behind h (ns ++ (vs ++ (ts ++ gs))) (256 + i) (260 + i) 0 (omega arith)
        ∙ get_or_behind ns (vs ++ (ts ++ gs)) i (256 + i) 0 (omega arith)

    set_past_names : (i v : ℕ) → set (flat h ns vs ts gs) (260 + i) v ≡ h ++ (ns ++ set (vs ++ (ts ++ gs)) i v)
    set_past_names i v =
        set_behind h (ns ++ (vs ++ (ts ++ gs))) (256 + i) (260 + i) v (omega arith)
        ∙ ap (λ (l : List ℕ). h ++ l) (set_behind ns (vs ++ (ts ++ gs)) i (256 + i) v (omega arith))

    module _ (lv : length vs ≡ 256) where
      pub at_value : (i : ℕ) → i < 256 → get_or (flat h ns vs ts gs) (260 + i) 0 ≡ get_or vs i 0
      at_value i b = past_names i ∙ get_or-append vs (ts ++ gs) 0 i (omega arith)

      pub set_value : (i v : ℕ) → i < 256 → set (flat h ns vs ts gs) (260 + i) v ≡ flat h ns (set vs i v) ts gs
      set_value i v b =
          set_past_names i v
          ∙ ap (λ (l : List ℕ). h ++ (ns ++ l)) (set-append_left vs (ts ++ gs) i v (omega arith))

      past_values : (i : ℕ) → get_or (flat h ns vs ts gs) (516 + i) 0 ≡ get_or (ts ++ gs) i 0
      past_values i =
          ap (λ (k : ℕ). get_or (flat h ns vs ts gs) k 0) (omega arith)
          ∙ past_names (256 + i)
          ∙ get_or_behind vs (ts ++ gs) i (256 + i) 0 (omega arith)

      set_past_values : (i v : ℕ) → set (flat h ns vs ts gs) (516 + i) v ≡ h ++ (ns ++ (vs ++ set (ts ++ gs) i v))
      set_past_values i v =
          ap (λ (k : ℕ). set (flat h ns vs ts gs) k v) (omega arith)
          ∙ set_past_names (256 + i) v
          ∙ ap (λ (l : List ℕ). h ++ (ns ++ l)) (set_behind vs (ts ++ gs) i (256 + i) v (omega arith))

      module _ (lt : length ts ≡ 4096) where
        pub at_text : (i : ℕ) → i < 4096 → get_or (flat h ns vs ts gs) (516 + i) 0 ≡ get_or ts i 0
        at_text i b = past_values i ∙ get_or-append ts gs 0 i (omega arith)

        pub set_text : (i v : ℕ) → i < 4096 → set (flat h ns vs ts gs) (516 + i) v ≡ flat h ns vs (set ts i v) gs
        set_text i v b =
            set_past_values i v ∙ ap (λ (l : List ℕ). h ++ (ns ++ (vs ++ l))) (set-append_left ts gs i v (omega arith))

        pub at_tag : (i : ℕ) → get_or (flat h ns vs ts gs) (4612 + i) 0 ≡ get_or gs i 0
        at_tag i =
            ap (λ (k : ℕ). get_or (flat h ns vs ts gs) k 0) (omega arith)
            ∙ past_values (4096 + i)
            ∙ get_or_behind ts gs i (4096 + i) 0 (omega arith)

        pub set_tag : (i v : ℕ) → set (flat h ns vs ts gs) (4612 + i) v ≡ flat h ns vs ts (set gs i v)
        set_tag i v =
            ap (λ (k : ℕ). set (flat h ns vs ts gs) k v) (omega arith)
            ∙ set_past_values (4096 + i) v
            ∙ ap (λ (l : List ℕ). h ++ (ns ++ (vs ++ l))) (set_behind ts gs i (4096 + i) v (omega arith))

-- what holds of each cell of each region holds of every cell
pub each_region : (P : ℕ → Type 0) → ((k : ℕ) → k < 4 → P k) → ((i : ℕ) → i < 256 → P (4 + i)) → ((i : ℕ) → i < 256 → P (260 + i)) → ((a : ℕ) → a < 4096 → P (516 + a)) → ((a : ℕ) → a < 4096 → P (4612 + a)) → (k : ℕ) → k < 8708 → P k
each_region P h ns vs ts gs k b = go (ltb k 4) (ltb k 260) (ltb k 516) (ltb k 4612) refl refl refl refl
  where
    from : (n i : ℕ) → n + i ≡ k → P (n + i) → P k
    from n i e p = subst P e p

    go : (w x y z : Bool) → ltb k 4 ≡ w → ltb k 260 ≡ x → ltb k 516 ≡ y → ltb k 4612 ≡ z → P k
    go true x y z p q r t = h k (ltb-true k 4 p)
    go false true y z p q r t =
        let l = ltb-false k 4 p in
        let u = ltb-true k 260 q in
        from 4 (k - 4) (omega arith) (ns (k - 4) (omega arith))
    go false false true z p q r t =
        let l = ltb-false k 260 q in
        let u = ltb-true k 516 r in
        from 260 (k - 260) (omega arith) (vs (k - 260) (omega arith))
    go false false false true p q r t =
        let l = ltb-false k 516 r in
        let u = ltb-true k 4612 t in
        from 516 (k - 516) (omega arith) (ts (k - 516) (omega arith))
    go false false false false p q r t =
        let l = ltb-false k 4612 t in
        from 4612 (k - 4612) (omega arith) (gs (k - 4612) (omega arith))

pub each_of_four : (P : ℕ → Type 0) → P 0 → P 1 → P 2 → P 3 → (k : ℕ) → k < 4 → P k
each_of_four P a b c d zero h = a
each_of_four P a b c d (suc zero) h = b
each_of_four P a b c d (suc (suc zero)) h = c
each_of_four P a b c d (suc (suc (suc zero))) h = d
each_of_four P a b c d (suc (suc (suc (suc k)))) h = absurd (omega arith)

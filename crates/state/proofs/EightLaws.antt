-- A list cut into eights: a test of all of it, and the eights at its end that hold no placed word.
use Rattle.std.specs.Prelude.{Option, Some, None}
use Rattle.std.specs.List.{list_all, fold}
use Rattle.std.specs.Int.Bits.{bit_or}
use Rattle.std.specs.Simd.{first_chunks}
use Rattle.std.proofs.lemmas.List.{length-take, length-drop, take-append-drop, drop-drop, get_or-take, get_or-drop}
use Rattle.std.proofs.lemmas.List.Folds.{list_all-append}
use Prim.Native.Nat.{ℕ, zero, suc, ◌+◌, ◌-◌, ◌*◌, ◌/◌, ◌%◌, ◌≤◌, ◌<◌}
use mathlib.Core.Bool.{Bool, true, false, ◌&&◌}
use mathlib.Core.List.{List, []}
use mathlib.Core.Path.{◌≡◌, refl, sym, ap, ◌∙◌}
use native.Mathlib.Omega.{arith}
use borrow.Author.Tests.{eqb-true, ltb-true, ltb-false, not-false}
use lib.ListN.{length, get_or, take, drop}
use lib.Dec.{ltb}
use Rattle.state.specs.Words.{LastOf, holds_word, LastEight, UnplacedFrom}
use Rattle.state.proofs.UnionLaws.{each_zero}

and_next : (s t u : Bool) → ((s && t) && u) ≡ (s && (t && u))
and_next true t u = refl
and_next false t u = refl

module _ {A : Type 0} (p : A → Bool) where
  -- m eights, and what is left
  all_eights : (m : ℕ) (l : List A) → (list_all (list_all p) (first_chunks 8 m l) && list_all p (drop (m * 8) l)) ≡ list_all p l
  all_eights zero l = refl
  all_eights (suc m) l =
      and_next (list_all p (take 8 l)) (list_all (list_all p) (first_chunks 8 m (drop 8 l))) (list_all p (drop (suc m * 8) l))
      ∙ ap (λ (b : Bool). list_all p (take 8 l) && b)
      (ap (λ (r : List A). list_all (list_all p) (first_chunks 8 m (drop 8 l)) && list_all p r)
      (ap (λ (k : ℕ). drop k l) (omega arith) ∙ sym (drop-drop (m * 8) 8 l))
      ∙ all_eights m (drop 8 l))
      ∙ sym (list_all-append p (take 8 l) (drop 8 l))
      ∙ ap (list_all p) (take-append-drop 8 l)

  -- in the words of the code
  module _ (l : List A) (es : List (List A)) (e : es ≡ first_chunks 8 (length l / 8) l) (rest : List A) (f : rest ≡ drop (length l / 8 * 8) l) where
    joined : (list_all (list_all p) es && list_all p rest) ≡ list_all p l
    joined = rw (e, f) (all_eights (length l / 8) l)

    pub eights_pass : list_all (list_all p) es ≡ true → list_all p rest ≡ list_all p l
    eights_pass h = sym (ap (λ (b : Bool). b && list_all p rest) h) ∙ joined

    pub eights_fail : list_all (list_all p) es ≡ false → false ≡ list_all p l
    eights_fail h = sym (ap (λ (b : Bool). b && list_all p rest) h) ∙ joined

eight_at : (m j : ℕ) (l : List ℕ) → j < m → get_or (first_chunks 8 m l) j [] ≡ take 8 (drop (j * 8) l)
eight_at zero j l h = absurd (omega arith)
eight_at (suc m) zero l h = refl
eight_at (suc m) (suc j) l h =
    eight_at m j (drop 8 l) (omega arith) ∙ ap (take 8) (drop-drop (j * 8) 8 l ∙ ap (λ (k : ℕ). drop k l) (omega arith))

-- ---- tags

either : {P : Type 0} (k n : ℕ) → (k < n → P) → (n ≤ k → P) → P
either {P} k n f g = go (ltb k n) refl
  where
    go : (b : Bool) → ltb k n ≡ b → P
    go true e = f (ltb-true k n e)
    go false e = g (ltb-false k n e)

module _ (tags : List ℕ) where
  abbrev eights : List (List ℕ)
  eights = first_chunks 8 (length tags / 8) (drop (length tags % 8) tags)

  -- the eights from the n-th on hold no word
  pub unplaced_behind : (n : ℕ) → n ≤ length tags / 8 → ((k : ℕ) → n ≤ k → k < length tags / 8 → holds_word (get_or eights k []) ≡ false) →
      UnplacedFrom tags (length tags % 8 + 8 * n)
  unplaced_behind n h e =
      record {
        within = omega arith;
        none = λ k a b.
            let f = length tags % 8 in
            let j = (k - f) / 8 in
            let i = (k - f) % 8 in
            let eight : get_or eights j [] ≡ take 8 (drop (j * 8) (drop f tags)) = eight_at (length tags / 8) j (drop f tags) (omega arith) in
            let same : f + (j * 8 + i) ≡ k = omega arith in
            let there : get_or (get_or eights j []) i 0 ≡ get_or tags k 0 =
            ap (λ (l : List ℕ). get_or l i 0) eight
            ∙ get_or-take 8 (drop (j * 8) (drop f tags)) i 0 (omega arith)
            ∙ get_or-drop (j * 8) (drop f tags) i 0
            ∙ get_or-drop f tags (j * 8 + i) 0
            ∙ ap (λ (k : ℕ). get_or tags k 0) same in
            sym there
            ∙ each_zero (get_or eights j []) (eqb-true (fold bit_or 0 (get_or eights j [])) 0 (not-false _ (e j (omega arith) (omega arith)))) i
            (omega (arith, ap length eight, length-take 8 (drop (j * 8) (drop f tags)), length-drop (j * 8) (drop f tags), length-drop f tags));
      }

  -- in the words of the code: the eights, and how many tags are left in front of the empty ones
  module _ (es : List (List ℕ)) (e : es ≡ eights) (long : length es ≡ length tags / 8) (n : ℕ) where
    same_eights : (k : ℕ) → holds_word (get_or es k []) ≡ false → holds_word (get_or eights k []) ≡ false
    same_eights k h = ap (λ (l : List (List ℕ)). holds_word (get_or l k [])) (sym e) ∙ h

    pub unplaced_from_some : (k : ℕ) → LastEight es (Some k) → n ≡ length tags % 8 + 8 * (k + 1) → UnplacedFrom tags n
    unplaced_from_some k last g =
        rw g (unplaced_behind (k + 1) (omega (arith, last.0, long)) (λ j l h. same_eights j (last.1 j (omega arith) (omega (arith, long)))))

    pub unplaced_from_none : LastEight es None → n ≡ length tags % 8 + 8 * 0 → UnplacedFrom tags n
    unplaced_from_none none g =
        rw g (unplaced_behind 0 (omega arith) (λ j l h. same_eights j (none j (omega (arith, long)))))

  -- the last tag that passes a test stands below an address from which on no word is placed
  pub last_below : (test : ℕ → Bool) → test 0 ≡ false → (n : ℕ) → UnplacedFrom tags n → (r : Option ℕ) → LastOf test (take n tags) r → LastOf test tags r
  last_below test t n u r f = go r f
    where
      behind : (k : ℕ) → n ≤ k → k < length tags → test (get_or tags k 0) ≡ false
      behind k a b = ap test (u.none k a b) ∙ t

      long : length (take n tags) ≡ n
      long = omega (arith, length-take n tags, u.within)

      go : (r : Option ℕ) → LastOf test (take n tags) r → LastOf test tags r
      go None f = λ k h. either k n (λ l. ap test (sym (get_or-take n tags k 0 l)) ∙ f k (omega (arith, long))) (λ l. behind k l h)
      go (Some i) f = (
        omega (arith, f.0, long, u.within),
        ap test (sym (get_or-take n tags i 0 (omega (arith, f.0, long)))) ∙ f.1,
        λ k l h. either k n (λ b. ap test (sym (get_or-take n tags k 0 b)) ∙ f.2 k l (omega (arith, long))) (λ b. behind k b h),
      )

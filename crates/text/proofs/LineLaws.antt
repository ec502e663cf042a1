-- The lines of a file, one after the other, by the positions of their ends.
-- Assumes nothing.
use Prim.Native.Nat.{ℕ, zero, suc, ◌+◌, ◌-◌, ◌≤◌, ◌<◌, min}
use native.Mathlib.Omega.{arith}
use mathlib.Core.Bool.{Bool, true, false, cond, not, ◌&&◌, true≢false}
use mathlib.Core.List.{List, [], ◌∷◌}
use mathlib.Core.Path.{◌≡◌, refl, sym, ap, ap₂, ◌∙◌}
use lib.ListN.{length, take, drop, get_or, length-drop, drop_of_length-le}
use lib.Seq.{drop-drop, get_or-drop}
use lib.Dec.{eqb, ltb}
use borrow.Author.Tests.{eq-eqb, ne_eqb, eqb-true, eqb-false, ltb-true, ltb-false}
use Rattle.rules.specs.Text.{LF, CR, lines_of, widen_line, legal_front}
use Rattle.rules.proofs.LineEndLaws.{starts_lf, add_to_lines, lines_nil, lines_cons}
use Rattle.text.specs.Scan.{part, run, past, is_not, Found}
use Rattle.text.specs.LineEnds.{line_next, line_stop, NextLine, is_legal, legal_end, front_of}
use Rattle.text.proofs.ScanLaws.{part_nil, part_all, part_front, run_yes, run_no, run_take, past_through, and_false}

-- how many bytes stand before the first LF
abbrev width : List ℕ → ℕ
width l = run (is_not LF) l

-- the length of a line whose LF stands at n
size : ℕ → List ℕ → ℕ
size zero l = 0
size (suc m) l = cond (eqb (get_or l m 0) CR) m (suc m)

module _ (b : ℕ) (rest : List ℕ) where
  width_LF : eqb b LF ≡ true → width (b ∷ rest) ≡ 0
  width_LF e = run_no (is_not LF) b rest (ap not e)

  width_more : eqb b LF ≡ false → width (b ∷ rest) ≡ suc (width rest)
  width_more e = run_yes (is_not LF) b rest (ap not e)

  not_at_LF : 0 < width (b ∷ rest) → eqb b LF ≡ false
  not_at_LF h = go (eqb b LF) refl
    where
      go : (t : Bool) → eqb b LF ≡ t → t ≡ false
      go true e = absurd (omega (arith, width_LF e))
      go false e = refl

  lines_LF : eqb b LF ≡ true → lines_of (b ∷ rest) ≡ [] ∷ lines_of rest
  unfolding add_to_lines
  lines_LF e = lines_cons b rest ∙ simp e

  lines_CRLF : eqb b LF ≡ false → eqb b CR ≡ true → starts_lf rest ≡ true → lines_of (b ∷ rest) ≡ lines_of rest
  unfolding add_to_lines
  lines_CRLF d e f = lines_cons b rest ∙ simp (d, e, f)

  lines_more : eqb b LF ≡ false → eqb b CR && starts_lf rest ≡ false → lines_of (b ∷ rest) ≡ widen_line b (lines_of rest)
  unfolding add_to_lines
  lines_more e f = lines_cons b rest ∙ simp (e, f)

-- a line that no LF ends is the last
last_line : (b : ℕ) (rest : List ℕ) → length rest < width (b ∷ rest) → lines_of (b ∷ rest) ≡ (b ∷ rest) ∷ []
unfolding starts_lf widen_line
last_line b [] h = lines_more b [] (not_at_LF b [] h) (and_false (eqb b CR)) ∙ ap (widen_line b) lines_nil
last_line b (x ∷ xs) h =
    let e = not_at_LF b (x ∷ xs) (omega arith) in
    let g : length xs < width (x ∷ xs) = omega (arith, width_more b (x ∷ xs) e) in
    lines_more b (x ∷ xs) e (rw (not_at_LF x xs (omega arith)) (and_false (eqb b CR)))
    ∙ ap (widen_line b) (last_line x xs g)

-- one byte more in front
size_more : (w b : ℕ) (l : List ℕ) → 0 < w → size (suc w) (b ∷ l) ≡ suc (size w l)
unfolding size
size_more zero b l h = absurd (omega arith)
size_more (suc m) b l h = go (eqb (get_or l m 0) CR)
  where
    go : (t : Bool) → cond t (suc m) (suc (suc m)) ≡ suc (cond t m (suc m))
    go true = refl
    go false = refl

-- a line that an LF ends
abbrev FirstLine : List ℕ → Type 0
FirstLine l = lines_of l ≡ take (size (width l) l) l ∷ lines_of (drop (suc (width l)) l)

first_LF : (b : ℕ) (rest : List ℕ) → eqb b LF ≡ true → FirstLine (b ∷ rest)
unfolding size
first_LF b rest e = rw (width_LF b rest e) (lines_LF b rest e)

module _ (b x : ℕ) (xs : List ℕ) (d : eqb b LF ≡ false) where
  first_CRLF : eqb x LF ≡ true → (t : Bool) → eqb b CR ≡ t → FirstLine (b ∷ x ∷ xs)
  unfolding size starts_lf widen_line
  first_CRLF f true e =
      rw (width_more b (x ∷ xs) d, width_LF x xs f, e) (lines_CRLF b (x ∷ xs) d e f ∙ lines_LF x xs f)
  first_CRLF f false e =
      rw (width_more b (x ∷ xs) d, width_LF x xs f, e)
      (lines_more b (x ∷ xs) d (rw e) ∙ ap (widen_line b) (lines_LF x xs f))

  first_more : eqb x LF ≡ false → FirstLine (x ∷ xs) → FirstLine (b ∷ x ∷ xs)
  unfolding size starts_lf widen_line
  first_more f ih =
      rw (width_more b (x ∷ xs) d)
      (lines_more b (x ∷ xs) d (rw f (and_false (eqb b CR)))
      ∙ ap (widen_line b) ih
      ∙ ap (λ (k : ℕ). take k (b ∷ x ∷ xs) ∷ lines_of (drop (suc (width (x ∷ xs))) (x ∷ xs)))
      (sym (size_more (width (x ∷ xs)) b (x ∷ xs) (omega (arith, width_more x xs f)))))

first_line : (b : ℕ) (rest : List ℕ) → width (b ∷ rest) ≤ length rest → FirstLine (b ∷ rest)
first_line b [] h = first_LF b [] (go (eqb b LF) refl)
  where
    go : (t : Bool) → eqb b LF ≡ t → t ≡ true
    go true e = refl
    go false e = absurd (omega (arith, width_more b [] e))
first_line b (x ∷ xs) h = go (eqb b LF) refl (eqb x LF) refl (λ k. first_line x xs k)
  where
    go :
        (t : Bool) → eqb b LF ≡ t → (u : Bool) → eqb x LF ≡ u
        → (width (x ∷ xs) ≤ length xs → FirstLine (x ∷ xs)) → FirstLine (b ∷ x ∷ xs)
    go true e u f ih = first_LF b (x ∷ xs) e
    go false e true f ih = first_CRLF b x xs e f (eqb b CR) refl
    go false e false f ih = first_more b x xs e f (ih (omega (arith, width_more b (x ∷ xs) e)))

-- ---- legal bytes

-- at most n legal bytes at the front are the legal bytes at the front of the first n
legal_run : (n : ℕ) (l : List ℕ) → legal_front n l ≡ run is_legal (take n l)
unfolding legal_front run
legal_run zero [] = refl
legal_run zero (b ∷ rest) = refl
legal_run (suc n) [] = refl
legal_run (suc n) (b ∷ rest) = ap (λ (k : ℕ). cond (is_legal b) (suc k) 0) (legal_run n rest)

-- where the first illegal byte of the file from the line's start on is known
pub front_is :
    (at stop illegal : ℕ) (file : List ℕ) → at ≤ stop → stop ≤ length file
    → Found at (length file) (legal_end at (length file) file) illegal
    → front_of at illegal stop ≡ legal_front 80 (part at stop file)
unfolding legal_end past part
front_is at stop illegal file h g f =
    rw (legal_run 80 (part at stop file), run_take is_legal 80 (part at stop file), run_take is_legal (stop - at) (drop at file))
    (omega (arith, rw (part_all at file) at f.is))

-- an empty line
pub front_none : (at : ℕ) (file : List ℕ) → legal_front 80 (part at at file) ≡ 0
unfolding legal_front
front_none at file = rw (part_nil at at file (omega arith))

legal_more : (b : ℕ) → is_legal b ≡ true → is_not LF b ≡ true
legal_more b e = go (eqb b LF) refl
  where
    go : (t : Bool) → eqb b LF ≡ t → not t ≡ true
    go true f = absurd (true≢false (sym e ∙ ap is_legal (eqb-true b LF f)))
    go false f = refl

-- an LF is no legal byte: it stands behind the legal ones
pub LF_behind :
    (at illegal lf : ℕ) (file : List ℕ) → Found at (length file) (legal_end at (length file) file) illegal
    → Found illegal (length file) (past (is_not LF) illegal (length file) file) lf
    → Found at (length file) (past (is_not LF) at (length file) file) lf
unfolding legal_end
LF_behind at illegal lf file f g =
    record {
      is =
          g.is
          ∙ ap (λ (k : ℕ). past (is_not LF) k (length file) file) f.is
          ∙ past_through (is_not LF) is_legal legal_more at (length file) file;
      least = omega (arith, f.least, g.least);
      most = g.most;
    }

-- ---- the same by positions

size_most : (w : ℕ) (l : List ℕ) → size w l ≤ w
unfolding size
size_most zero l = omega arith
size_most (suc m) l = go (eqb (get_or l m 0) CR)
  where
    go : (t : Bool) → cond t m (suc m) ≤ suc m
    go true = omega arith
    go false = omega arith

size_at : (w : ℕ) (l : List ℕ) → 0 < w → size w l ≡ cond (eqb (get_or l (w - 1) 0) CR) (w - 1) w
unfolding size
size_at zero l h = absurd (omega arith)
size_at (suc m) l h = let k : suc m - 1 ≡ m = omega arith in rw k

only_line : (l : List ℕ) → 0 < length l → length l ≤ width l → lines_of l ≡ l ∷ []
only_line [] h g = absurd (omega arith)
only_line (b ∷ rest) h g = last_line b rest g

front_line : (l : List ℕ) → width l < length l → FirstLine l
front_line [] h = absurd (omega arith)
front_line (b ∷ rest) h = first_line b rest (omega arith)

-- nothing after a final LF is a line
pub no_line : (at : ℕ) (file : List ℕ) → length file ≤ at → lines_of (drop at file) ≡ []
no_line at file h = rw (drop_of_length-le file h) lines_nil

module _ (at lf : ℕ) (file : List ℕ) (f : Found at (length file) (past (is_not LF) at (length file) file) lf) where
  width_is : width (drop at file) ≡ lf - at
  unfolding past
  width_is = rw (← (part_all at file)) (omega (arith, f.is))

  next_is : line_next at file ≡ min (lf + 1) (length file)
  unfolding line_next
  next_is = rw (← f.is)

  -- no LF: the line stops with the file
  pub stops_with_file :
      at < length file → lf ≡ length file → {k : ℕ} → k ≡ legal_front 80 (part at lf file)
      → NextLine at file (record { stop = lf; next = lf; front = k })
  stops_with_file h e g =
      record {
        lines =
            only_line (drop at file)
            (omega (arith, length-drop at file))
            (omega (arith, length-drop at file, width_is))
            ∙ sym (ap₂ ◌∷◌ (ap (λ (k : ℕ). part at k file) e ∙ part_all at file) (no_line lf file (omega arith)));
        follows = omega (arith, next_is);
        starts = f.least;
        stops = omega arith;
        moves = omega arith;
        ends = omega arith;
        fronts = g;
      }

  -- an LF, with the size of the line before it
  stops_at :
      (stop : ℕ) → lf < length file → at + size (lf - at) (drop at file) ≡ stop
      → {k : ℕ} → k ≡ legal_front 80 (part at stop file)
      → NextLine at file (record { stop = stop; next = lf + 1; front = k })
  stops_at stop h e g =
      let k : at + suc (lf - at) ≡ lf + 1 = omega (arith, f.least) in
      record {
        lines =
            rw width_is at (front_line (drop at file) (omega (arith, length-drop at file, width_is)))
            ∙ ap₂ ◌∷◌
            (sym (part_front at (size (lf - at) (drop at file)) file) ∙ ap (λ (k : ℕ). part at k file) e)
            (ap lines_of (drop-drop (suc (lf - at)) at file ∙ ap (λ (n : ℕ). drop n file) k));
        follows = omega (arith, next_is);
        starts = omega arith;
        stops = omega (arith, size_most (lf - at) (drop at file));
        moves = omega (arith, f.least);
        ends = omega arith;
        fronts = g;
      }

  module _ (h : lf < length file) where
    pub stops_empty : lf ≡ at → NextLine at file (record { stop = lf; next = lf + 1; front = 0 })
    unfolding size
    stops_empty e =
        stops_at lf h (let k : lf - at ≡ 0 = omega arith in rw k (omega arith))
        (sym (front_none at file) ∙ ap (λ (k : ℕ). legal_front 80 (part at k file)) (sym e))

    module _ (g : lf ≡ at → ⊥) where
      w : 0 < lf - at
      w = omega (arith, f.least)

      last_byte : get_or (drop at file) (lf - at - 1) 0 ≡ get_or file (lf - 1) 0
      last_byte =
          let k : at + (lf - at - 1) ≡ lf - 1 = omega (arith, w) in
          get_or-drop at file (lf - at - 1) 0 ∙ ap (λ (n : ℕ). get_or file n 0) k

      size_is : (t : Bool) → eqb (get_or file (lf - 1) 0) CR ≡ t → at + size (lf - at) (drop at file) ≡ cond t (lf - 1) lf
      size_is true e = omega (arith, rw (last_byte, e) at (size_at (lf - at) (drop at file) w))
      size_is false e = omega (arith, rw (last_byte, e) at (size_at (lf - at) (drop at file) w))

      pub stops_CRLF :
          get_or file (lf - 1) 0 ≡ CR → {k : ℕ} → k ≡ legal_front 80 (part at (lf - 1) file)
          → NextLine at file (record { stop = lf - 1; next = lf + 1; front = k })
      stops_CRLF e = stops_at (lf - 1) h (size_is true (eq-eqb _ _ e))

      pub stops_LF :
          (get_or file (lf - 1) 0 ≡ CR → ⊥) → {k : ℕ} → k ≡ legal_front 80 (part at lf file)
          → NextLine at file (record { stop = lf; next = lf + 1; front = k })
      stops_LF e = stops_at lf h (size_is false (ne_eqb _ _ e))

-- the line as the code puts it together
module _ {at illegal lf : ℕ} {file : List ℕ} (h : at < length file) (i : Found at (length file) (legal_end at (length file) file) illegal)
    (g : Found illegal (length file) (past (is_not LF) illegal (length file) file) lf) where
  pub line_is : {s n k : ℕ} → s ≡ line_stop at lf file → n ≡ min (length file) (lf + 1) → k ≡ front_of at illegal s → NextLine at file (record { stop = s; next = n; front = k })
  line_is {s} {n} {k} e f c = go (ltb at lf) refl (ltb lf (length file)) refl (eqb (get_or file (lf - 1) 0) CR) refl
    where
      l : Found at (length file) (past (is_not LF) at (length file) file) lf
      l = LF_behind at illegal lf file i g

      front : (stop : ℕ) → s ≡ stop → at ≤ stop → stop ≤ length file → k ≡ legal_front 80 (part at stop file)
      front stop d low high = c ∙ ap (front_of at illegal) d ∙ front_is at stop illegal file low high i

      go : (p : Bool) → ltb at lf ≡ p → (q : Bool) → ltb lf (length file) ≡ q → (r : Bool) → eqb (get_or file (lf - 1) 0) CR ≡ r
          → NextLine at file (record { stop = s; next = n; front = k })
      go p t false u r v =
          let d : s ≡ lf = simp (u, and_false (ltb at lf)) at e in
          let last : lf ≡ length file = omega (arith, ltb-false lf (length file) u, g.most) in
          let m : n ≡ lf = omega arith in
          rw (d, m) (stops_with_file at lf file l h last (front lf d l.least l.most))
      go false t true u r v =
          let d : s ≡ lf = simp (t) at e in
          let more = ltb-true lf (length file) u in
          let m : n ≡ lf + 1 = omega arith in
          let here : lf ≡ at = omega (arith, ltb-false at lf t, l.least) in
          let none : k ≡ 0 = omega (arith, c, d) in
          rw (d, m, none) (stops_empty at lf file l more here)
      go true t true u true v =
          let d : s ≡ lf - 1 = simp (t, u, v) at e in
          let more = ltb-true lf (length file) u in
          let m : n ≡ lf + 1 = omega arith in
          let some = ltb-true at lf t in
          rw (d, m) (stops_CRLF at lf file l more (λ x. omega arith) (eqb-true _ _ v) (front (lf - 1) d (omega arith) (omega arith)))
      go true t true u false v =
          let d : s ≡ lf = simp (t, u, v) at e in
          let more = ltb-true lf (length file) u in
          let m : n ≡ lf + 1 = omega arith in
          let some = ltb-true at lf t in
          rw (d, m) (stops_LF at lf file l more (λ x. omega arith) (eqb-false _ _ v) (front lf d l.least l.most))

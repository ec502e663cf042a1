-- The lines of a text by its first byte: an LF ends a line, a CR just before an LF is dropped, any other byte widens the first line.
use Prim.Native.Nat.{ℕ, ◌≤◌}
use native.Mathlib.Omega.{arith}
use lib.ListN.{length}
use mathlib.Core.Bool.{Bool, true, false, cond, ◌&&◌, ◌||◌}
use mathlib.Core.List.{List, [], ◌∷◌, ◌++◌, map}
use mathlib.Core.Path.{◌≡◌, refl, sym, ap, ap₂, ◌∙◌}
use lib.Dec.{eqb}
use Rattle.rules.specs.Text.{LF, CR, widen_line, cut_lines, same_text, is_line_end, without_end, lines_of}
use Rattle.rules.proofs.BoolLaws.{never}

-- does the text start with an LF
unfoldable pub starts_lf : List ℕ → Bool
starts_lf [] = false
starts_lf (b ∷ rest) = eqb b LF

-- a byte in front of a text with these lines
unfoldable pub add_to_lines : ℕ → Bool → List (List ℕ) → List (List ℕ)
add_to_lines b lf ls = cond (eqb b LF) ([] ∷ ls) (cond (eqb b CR && lf) ls (widen_line b ls))

-- a text's first line, with its end: it begins as the text does, and is done where that is an LF
record First (c : ℕ) (cut : List (List ℕ)) : Type 0 where
  line : List ℕ
  more : List (List ℕ)
  is : cut ≡ (c ∷ line) ∷ more
  done : eqb c LF ≡ true → line ≡ []

cut_first : (c : ℕ) (rest : List ℕ) → First c (cut_lines (c ∷ rest))
unfolding cut_lines widen_line
cut_first c rest = go (eqb c LF) refl (cut_lines rest)
  where
    go : (t : Bool) → eqb c LF ≡ t → (ls : List (List ℕ)) → First c (cond t ((c ∷ []) ∷ ls) (widen_line c ls))
    go true e ls = record { line = []; more = ls; is = refl; done = λ _. refl }
    go false e [] = record { line = []; more = []; is = refl; done = λ _. refl }
    go false e (l ∷ ls) = record { line = l; more = ls; is = refl; done = λ h. never h e }

-- an LF alone
module _ (b : ℕ) where
  end_LF : eqb b LF ≡ true → without_end (b ∷ []) ≡ []
  unfolding without_end same_text
  end_LF e = simp e

  one_byte : eqb b LF ≡ false → without_end (b ∷ []) ≡ b ∷ []
  unfolding without_end same_text
  one_byte e = go (eqb b CR)
    where
      go : (v : Bool) → cond (eqb b LF && true || v && false) [] (b ∷ []) ≡ b ∷ []
      go true = simp e
      go false = simp e

  -- two bytes and more
  module _ (c : ℕ) (l : List ℕ) (d : eqb b LF ≡ false) where
    end_CRLF : eqb c LF ≡ true → l ≡ [] → eqb b CR ≡ true → without_end (b ∷ c ∷ l) ≡ []
    unfolding without_end same_text
    end_CRLF f n e = rw n (simp (d, e, f))

    no_end : is_line_end (b ∷ c ∷ l) ≡ false → without_end (b ∷ c ∷ l) ≡ b ∷ without_end (c ∷ l)
    unfolding without_end
    no_end q = rw q

    more_bytes : eqb b CR && eqb c LF ≡ false → without_end (b ∷ c ∷ l) ≡ b ∷ without_end (c ∷ l)
    unfolding same_text
    more_bytes h = go (eqb b CR) refl (eqb c LF) refl
      where
        go : (v : Bool) → eqb b CR ≡ v → (u : Bool) → eqb c LF ≡ u → without_end (b ∷ c ∷ l) ≡ b ∷ without_end (c ∷ l)
        go true e true f = never (rw (e, f)) h
        go true e false f = no_end (simp (d, e, f))
        go false e u f = no_end (simp (d, e))

pub lines_nil : lines_of [] ≡ []
unfolding lines_of cut_lines
lines_nil = refl

pub lines_cons : (b : ℕ) (rest : List ℕ) → lines_of (b ∷ rest) ≡ add_to_lines b (starts_lf rest) (lines_of rest)
unfolding lines_of add_to_lines starts_lf cut_lines widen_line
lines_cons b [] = go (eqb b LF) refl (eqb b CR)
  where
    go :
        (t : Bool) → eqb b LF ≡ t → (v : Bool)
        → map without_end (cond t ((b ∷ []) ∷ []) ((b ∷ []) ∷ [])) ≡ cond t ([] ∷ []) (cond (v && false) [] ((b ∷ []) ∷ []))
    go true e v = ap (λ (l : List ℕ). l ∷ []) (end_LF b e)
    go false e true = ap (λ (l : List ℕ). l ∷ []) (one_byte b e)
    go false e false = ap (λ (l : List ℕ). l ∷ []) (one_byte b e)
lines_cons b (c ∷ rest) = go (eqb b LF) refl (cut_lines (c ∷ rest)) (cut_first c rest)
  where
    go :
        (t : Bool) → eqb b LF ≡ t → (cut : List (List ℕ)) → First c cut
        → map without_end (cond t ((b ∷ []) ∷ cut) (widen_line b cut))
        ≡ cond t ([] ∷ map without_end cut) (cond (eqb b CR && eqb c LF) (map without_end cut) (widen_line b (map without_end cut)))
    go true e cut f = ap (λ (l : List ℕ). l ∷ map without_end cut) (end_LF b e)
    go false e cut f = rw f.is (at (eqb b CR) refl (eqb c LF) refl)
      where
        ls : List (List ℕ)
        ls = map without_end f.more

        at :
            (v : Bool) → eqb b CR ≡ v → (u : Bool) → eqb c LF ≡ u
            → without_end (b ∷ c ∷ f.line) ∷ ls ≡ cond (v && u) (without_end (c ∷ f.line) ∷ ls) ((b ∷ without_end (c ∷ f.line)) ∷ ls)
        at true p true q =
            ap (λ (l : List ℕ). l ∷ ls)
            (end_CRLF b c f.line e q (f.done q) p ∙ sym (ap (λ (l : List ℕ). without_end (c ∷ l)) (f.done q) ∙ end_LF c q))
        at true p false q = ap (λ (l : List ℕ). l ∷ ls) (more_bytes b c f.line e (rw (p, q)))
        at false p u q = ap (λ (l : List ℕ). l ∷ ls) (more_bytes b c f.line e (rw p))

-- ---- a text behind an LF

-- a byte in front of a text with a line in it, that text having lines behind it or not
module _ (b : ℕ) (lf : Bool) where
  add_append : (ls ks : List (List ℕ)) → 1 ≤ length ls → add_to_lines b lf (ls ++ ks) ≡ add_to_lines b lf ls ++ ks
  unfolding add_to_lines widen_line
  add_append [] ks h = absurd (omega arith)
  add_append (l ∷ ls) ks h = go (eqb b LF) (eqb b CR && lf)
    where
      go :
          (t u : Bool)
          → cond t ([] ∷ l ∷ ls ++ ks) (cond u (l ∷ ls ++ ks) ((b ∷ l) ∷ ls ++ ks))
          ≡ cond t ([] ∷ l ∷ ls) (cond u (l ∷ ls) ((b ∷ l) ∷ ls)) ++ ks
      go true u = refl
      go false true = refl
      go false false = refl

  add_some : (ls : List (List ℕ)) → 1 ≤ length ls → 1 ≤ length (add_to_lines b lf ls)
  unfolding add_to_lines widen_line
  add_some [] h = absurd (omega arith)
  add_some (l ∷ ls) h = go (eqb b LF) (eqb b CR && lf)
    where
      go : (t u : Bool) → 1 ≤ length (cond t ([] ∷ l ∷ ls) (cond u (l ∷ ls) ((b ∷ l) ∷ ls)))
      go true u = omega arith
      go false true = omega arith
      go false false = omega arith

starts_same : (f g : List ℕ) → starts_lf (f ++ LF ∷ g) ≡ starts_lf (f ++ (LF ∷ []))
unfolding starts_lf
starts_same [] g = refl
starts_same (b ∷ f) g = refl

-- an LF alone is one empty line, in front of what follows
pub line_LF : (g : List ℕ) → lines_of (LF ∷ g) ≡ [] ∷ lines_of g
line_LF g = lines_cons LF g ∙ unfold add_to_lines in refl

pub some_line : (f : List ℕ) → 1 ≤ length (lines_of (f ++ (LF ∷ [])))
some_line [] = rw (line_LF []) (omega arith)
some_line (b ∷ f) =
    rw (lines_cons b (f ++ (LF ∷ []))) (add_some b (starts_lf (f ++ (LF ∷ []))) (lines_of (f ++ (LF ∷ []))) (some_line f))

-- the lines of a text that goes on behind an LF
pub lines_behind_LF : (f g : List ℕ) → lines_of (f ++ LF ∷ g) ≡ lines_of (f ++ (LF ∷ [])) ++ lines_of g
lines_behind_LF [] g = line_LF g ∙ ap (λ (ls : List (List ℕ)). ls ++ lines_of g) (sym (line_LF [] ∙ ap (◌∷◌ []) lines_nil))
lines_behind_LF (b ∷ f) g =
    lines_cons b (f ++ LF ∷ g)
    ∙ ap₂ (add_to_lines b) (starts_same f g) (lines_behind_LF f g)
    ∙ add_append b (starts_lf (f ++ (LF ∷ []))) (lines_of (f ++ (LF ∷ []))) (lines_of g) (some_line f)
    ∙ ap (λ (ls : List (List ℕ)). ls ++ lines_of g) (sym (lines_cons b (f ++ (LF ∷ []))))

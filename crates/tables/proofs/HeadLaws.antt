-- The parts that stand in cells, from a cell on, what a part's first cell says of it, and the names of the entries.
use Prim.Native.Nat.{ℕ, suc, ◌+◌, ◌-◌, ◌/◌, ◌%◌, ◌<◌, ◌≤◌, max}
use native.Mathlib.Omega.{arith}
use mathlib.Core.Bool.{Bool, true, false, cond, ◌||◌}
use mathlib.Core.List.{List, [], ◌∷◌, map}
use mathlib.Core.Logic.{◌≢◌}
use mathlib.Core.Path.{◌≡◌, refl, sym, ap, ◌∙◌}
use lib.ListN.{length, get_or, drop, length-drop}
use lib.Seq.{drop-cons}
use lib.Dec.{eqb}
use borrow.Author.Tests.{eqb-true, eqb-false}
use Rattle.rules.specs.Line.{entry, code_word}
use Rattle.rules.specs.Placing.{entries_in, externals_in, code_in, length_in, entry_name}
use Rattle.rules.specs.declared.line.Entry.{Entry}
use Rattle.rules.specs.declared.line.Relocation.TheVariants.{Plain, External, Unread}
use Rattle.rules.specs.declared.reading.Part.{Part}
use Rattle.rules.specs.declared.reading.Part.TheVariants.{EntryPart, ExternalPart, BlockPart, WordPart}
use Rattle.tables.specs.Tables.{low16, no_part, part_of, parts_of}
use Rattle.rules.proofs.BoolLaws.{cond_cases}
use Rattle.tables.specs.Heads.{parts_from, names_in, is_entry, entry_of, is_external, block_end, is_word, address_of, argument_of, relocation_of, code_of}

-- ---- the next part of a slice, and its end

parts_end : (cells : List ℕ) → length cells ≤ 1 → parts_of cells ≡ []
unfolding parts_of
parts_end [] h = refl
parts_end (x ∷ []) h = refl
parts_end (x ∷ y ∷ cells) h = absurd (omega arith)

pub parts_done : (cells : List ℕ) (i : ℕ) → length cells - i ≤ 1 → parts_from cells i ≡ []
parts_done cells i h = parts_end (drop i cells) (omega (arith, length-drop i cells))

pub parts_next : (cells : List ℕ) (i : ℕ) → 1 < length cells - i →
    parts_from cells i ≡ part_of (get_or cells i 0) (get_or cells (i + 1) 0) ∷ parts_from cells (i + 2)
unfolding parts_of
parts_next cells i h =
    let one : suc i ≡ i + 1 = omega arith in
    let two : suc (i + 1) ≡ i + 2 = omega arith in
    ap parts_of
    (drop-cons cells i 0 (omega arith)
    ∙ ap (λ (l : List ℕ). get_or cells i 0 ∷ l)
    (ap (λ (k : ℕ). drop k cells) one
    ∙ drop-cons cells (i + 1) 0 (omega arith)
    ∙ ap (λ (k : ℕ). get_or cells (i + 1) 0 ∷ drop k cells) two))

-- ---- the kinds

none : (k : ℕ) → k < 8 → k ≢ 1 → k ≢ 2 → k ≢ 3 → k ≢ 4 → k ≢ 5 → k ≢ 6 → k ≢ 7 → k ≡ 0
none k h n₁ n₂ n₃ n₄ n₅ n₆ n₇ =
    below₄ k (below₇ k h n₄ n₅ n₆ n₇) n₁ n₂ n₃
  where
    below₇ : (k : ℕ) → k < 8 → k ≢ 4 → k ≢ 5 → k ≢ 6 → k ≢ 7 → k < 4
    below₇ k h a b c d = omega arith

    below₄ : (k : ℕ) → k < 4 → k ≢ 1 → k ≢ 2 → k ≢ 3 → k ≡ 0
    below₄ k h a b c = omega arith

module _ (h b : ℕ) where
  -- what holds of a part of each kind holds of the part
  pub part_cases : (P : Part → Type 0) →
      (h % 8 ≡ 0 → P no_part) →
      (h % 8 ≡ 1 → P (EntryPart (entry b (low16 (h / 8)) false (low16 (h / 8 / 65536))))) →
      (h % 8 ≡ 2 → P (EntryPart (entry b (low16 (h / 8)) true (low16 (h / 8 / 65536))))) →
      (h % 8 ≡ 3 → P (ExternalPart b)) →
      (h % 8 ≡ 4 → P (BlockPart (low16 (h / 8)) (low16 (h / 8 / 65536)))) →
      (h % 8 ≡ 5 → P (WordPart (address_of h) (code_word b Plain))) →
      (h % 8 ≡ 6 → P (WordPart (address_of h) (code_word b (External (argument_of h))))) →
      (h % 8 ≡ 7 → P (WordPart (address_of h) (code_word b (Unread (argument_of h))))) →
      P (part_of h b)
  unfolding part_of
  part_cases P p₀ p₁ p₂ p₃ p₄ p₅ p₆ p₇ =
      let k : ℕ = h % 8 in
      cond_cases P (eqb k 1) _ _ (λ e. p₁ (eqb-true k 1 e)) λ e₁.
      cond_cases P (eqb k 2) _ _ (λ e. p₂ (eqb-true k 2 e)) λ e₂.
      cond_cases P (eqb k 3) _ _ (λ e. p₃ (eqb-true k 3 e)) λ e₃.
      cond_cases P (eqb k 4) _ _ (λ e. p₄ (eqb-true k 4 e)) λ e₄.
      cond_cases P (eqb k 5) _ _ (λ e. p₅ (eqb-true k 5 e)) λ e₅.
      cond_cases P (eqb k 6) _ _ (λ e. p₆ (eqb-true k 6 e)) λ e₆.
      cond_cases P (eqb k 7) _ _ (λ e. p₇ (eqb-true k 7 e)) λ e₇.
      p₀
      (none k (omega arith)
      (eqb-false k 1 e₁) (eqb-false k 2 e₂) (eqb-false k 3 e₃) (eqb-false k 4 e₄) (eqb-false k 5 e₅) (eqb-false k 6 e₆) (eqb-false k 7 e₇))

  module _ (ps : List Part) where
    pub entries_cons : entries_in (part_of h b ∷ ps) ≡ cond (is_entry h) (entry_of h b ∷ entries_in ps) (entries_in ps)
    unfolding entries_in entry_of
    entries_cons =
        part_cases (λ p. entries_in (p ∷ ps) ≡ cond (is_entry h) (entry_of h b ∷ entries_in ps) (entries_in ps))
        (λ e. rw e) (λ e. rw e) (λ e. rw e) (λ e. rw e) (λ e. rw e) (λ e. rw e) (λ e. rw e) (λ e. rw e)

    pub externals_cons : externals_in (part_of h b ∷ ps) ≡ cond (is_external h) (b ∷ externals_in ps) (externals_in ps)
    unfolding externals_in
    externals_cons =
        part_cases (λ p. externals_in (p ∷ ps) ≡ cond (is_external h) (b ∷ externals_in ps) (externals_in ps))
        (λ e. rw e) (λ e. rw e) (λ e. rw e) (λ e. rw e) (λ e. rw e) (λ e. rw e) (λ e. rw e) (λ e. rw e)

    pub code_cons : code_in (part_of h b ∷ ps) ≡ cond (is_word h) (code_of h b ∷ code_in ps) (code_in ps)
    unfolding code_in code_of relocation_of
    code_cons =
        part_cases (λ p. code_in (p ∷ ps) ≡ cond (is_word h) (code_of h b ∷ code_in ps) (code_in ps))
        (λ e. rw e) (λ e. rw e) (λ e. rw e) (λ e. rw e) (λ e. rw e) (λ e. rw e) (λ e. rw e) (λ e. rw e)

    pub length_cons : length_in (part_of h b ∷ ps) ≡ max (block_end h) (length_in ps)
    unfolding length_in block_end
    length_cons =
        part_cases (λ p. length_in (p ∷ ps) ≡ max (block_end h) (length_in ps))
        (λ e. rw e) (λ e. rw e (omega arith)) (λ e. rw e (omega arith)) (λ e. rw e (omega arith))
        (λ e. rw e) (λ e. rw e (omega arith)) (λ e. rw e (omega arith)) (λ e. rw e (omega arith))

pub block_end_most : (h : ℕ) → block_end h ≤ 131070
unfolding block_end
block_end_most h =
    let count = low16 (h / 8 / 65536) in
    cond_cases (λ k. k ≤ 131070) (eqb (h % 8) 4) _ _
    (λ _. cond_cases (λ k. k ≤ 131070) (eqb count 0) _ _ (λ _. omega arith) (λ _. omega arith))
    (λ _. omega arith)

-- the names from a cell on
module _ (cells : List ℕ) (i : ℕ) (h : 1 < length cells - i) where
  abbrev head : ℕ
  head = get_or cells i 0

  abbrev body : ℕ
  body = get_or cells (i + 1) 0

  pub names_next : names_in (parts_from cells i)
      ≡ cond (is_entry head) (body ∷ names_in (parts_from cells (i + 2))) (names_in (parts_from cells (i + 2)))
  unfolding entry_of
  names_next =
      ap names_in (parts_next cells i h)
      ∙ ap (map entry_name) (entries_cons head body (parts_from cells (i + 2)))
      ∙ go (is_entry head) (entry_of head body) (entries_in (parts_from cells (i + 2)))
    where
      go : (b : Bool) (e : Entry) (es : List Entry) →
          map entry_name (cond b (e ∷ es) es) ≡ cond b (e.name ∷ map entry_name es) (map entry_name es)
      go true e es = refl
      go false e es = refl

-- a test that some part passes, which is p at the part in turn: r is what the code found there
pub turned : {a : Bool} (p rest : Bool) {whole r b : Bool} → a ≡ (p || rest) → a ≡ whole → r ≡ p → r ≡ b → (b || rest) ≡ whole
turned p rest e w q t = sym (ap (λ b. b || rest) (sym q ∙ t)) ∙ sym e ∙ w

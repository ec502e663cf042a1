-- The words one by one: what is counted, and what is written.
use Rattle.std.proofs.Common.{◌≡◌, ◌+◌, ◌<◌, ◌≤◌, ℕ, Bool, true, false, ltb, ltb-true, ltb-false, refl, cond, List, [], ◌∷◌, ◌++◌, length, get_or, take, drop, sym, ap, ◌∙◌, append_assoc, append-nil, add-zero, zero-add, length-take-le, add-one, arith, length-append, take-append-drop, drop_of_length-le, drop-cons}
use Rattle.std.proofs.Math.ListN.{get_or-eq_default}
use Rattle.std.proofs.lemmas.List.{take_more, take_all}
use Rattle.rules.specs.State.{Symbol, State, Word, unplaced, is_placed, placed_words, high, undefined_only}
use Rattle.rules.specs.Image.{two, records_from, record_of, image_of, end_record}
use Rattle.rules.proofs.HighLaws.{IsHigh, address, none, high_is}
use Rattle.rules.proofs.BoolLaws.{never}
use Rattle.image.specs.declared.Output.{Output}
use Rattle.image.specs.Output.{end_bytes, record_at, words_of, Puts, Written}
use Rattle.image.proofs.OutputLaws.{puts_append, puts_written}

-- ---- counting

-- the words from an address on: the first of them, and the others
words_from : (ws : List Word) (a : ℕ) → a < length ws → drop a ws ≡ get_or ws a unplaced ∷ drop (a + 1) ws
words_from ws a h = drop-cons ws a unplaced h ∙ ap (λ n. get_or ws a unplaced ∷ drop n ws) (sym (add-one a))

pub count_from : (ws : List Word) (a : ℕ) (b : Bool) → a < length ws → b ≡ is_placed (get_or ws a unplaced) →
    placed_words (drop a ws) ≡ cond b 1 0 + placed_words (drop (a + 1) ws)
unfolding placed_words
count_from ws a b h e = ap placed_words (words_from ws a h) ∙ ap (λ p. cond p 1 0 + placed_words (drop (a + 1) ws)) (sym e)

pub count_end : (ws : List Word) (a : ℕ) → length ws ≤ a → placed_words (drop a ws) ≡ 0
unfolding placed_words
count_end ws a h = ap placed_words (drop_of_length-le ws h)

-- ---- writing

-- the records of the words below address a
abbrev pub written_below : State → ℕ → List ℕ
written_below s a = records_from s.symbols 0 (take a s.words)

records_append : (t : List Symbol) (k : ℕ) (vs ws : List Word) →
    records_from t k (vs ++ ws) ≡ records_from t k vs ++ records_from t (k + length vs) ws
unfolding records_from
records_append t k [] ws = ap (λ n. records_from t n ws) (sym (add-zero k))
records_append t k (v ∷ vs) ws =
    let next : k + 1 + length vs ≡ k + length (v ∷ vs) = omega arith in
    ap (λ l. record_of t k v ++ l) (records_append t (k + 1) vs ws ∙ ap (λ n. records_from t (k + 1) vs ++ records_from t n ws) next)
    ∙ sym (append_assoc (record_of t k v) (records_from t (k + 1) vs) _)

module _ (s : State) where
  pub written_more : (a : ℕ) → a < length s.words → written_below s (a + 1) ≡ written_below s a ++ record_at s a
  unfolding records_from
  written_more a h =
      ap (records_from s.symbols 0) (take_more s.words a unplaced h)
      ∙ records_append s.symbols 0 (take a s.words) _
      ∙ ap (λ l. written_below s a ++ l) (append-nil _ ∙ ap (λ n. record_of s.symbols n (get_or s.words a unplaced)) (zero-add (length (take a s.words)) ∙ length-take-le a s.words (omega arith)))

  pub written_none : written_below s 0 ≡ []
  unfolding records_from
  written_none = refl

  pub written_all : (a : ℕ) → length s.words ≤ a → written_below s a ≡ words_of s
  written_all a h = ap (records_from s.symbols 0) (take_all a s.words h)

  -- what is written below an address is no more than all
  pub written_room : (a : ℕ) → length (written_below s a) ≤ length (words_of s)
  written_room a =
      let e = ap (records_from s.symbols 0) (sym (take-append-drop a s.words)) ∙ records_append s.symbols 0 (take a s.words) (drop a s.words) in
      omega (arith, ap length e, length-append (written_below s a) (records_from s.symbols (0 + length (take a s.words)) (drop a s.words)))

-- ---- the end record's numbers have sixteen bits

pub high_small : (ws : List Word) → length ws ≤ 65535 → high ws ≤ 65535
high_small ws few = go (high_is ws)
  where
    go : {h : ℕ} → IsHigh ws h → h ≤ 65535
    go {h} (address s above) = inside (ltb 65535 h) refl
      where
        inside : (b : Bool) → ltb 65535 h ≡ b → h ≤ 65535
        inside false e = ltb-false 65535 h e
        inside true e = let past = ltb-true 65535 h e in never s (ap is_placed (get_or-eq_default ws unplaced (omega arith)))
    go (none e nowhere) = omega (arith, e)

pub undefined_few : (t : List Symbol) → length (undefined_only t) ≤ length t
unfolding undefined_only
undefined_few [] = omega arith
undefined_few (s ∷ t) = go s.defined (undefined_few t)
  where
    go : (b : Bool) → length (undefined_only t) ≤ length t → length (cond b (undefined_only t) (s ∷ undefined_only t)) ≤ length (s ∷ t)
    go true h = omega arith
    go false h = omega arith

pub image_words : (s : State) → length (image_of s) ≡ length (words_of s) + 5
unfolding image_of end_record two
image_words s = length-append (words_of s) (end_record s)

pub image_written : (s : State) {a b c : Output} (h u : ℕ) → h ≡ high s.words → u ≡ length (undefined_only s.symbols) → a.at ≡ 0 →
    Puts (words_of s) a b → Puts (end_bytes h u) b c → Written 0 (image_of s) a.bytes.now c.bytes.now c.at
unfolding image_of end_record
image_written s {a} {b} {c} h u p q start words end =
    let last : Puts (end_record s) b c = rw (← p, ← q) end in
    puts_written {b = c} start (puts_append words last)

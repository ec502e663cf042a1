-- Laws of a module's parts (specs/Placing.antt): what two lists of parts have together, and when parts are sound.
use Prim.Native.Nat.{ℕ, ◌+◌, ◌<◌, ◌≤◌, max}
use mathlib.Core.Bool.{Bool, true, false, cond, ◌&&◌}
use mathlib.Core.List.{List, [], ◌∷◌, ◌++◌}
use mathlib.Core.Path.{◌≡◌, refl, ap}
use native.Mathlib.Omega.{arith}
use lib.ListN.{length, length-append}
use lib.Dec.{eqb, leb, ltb}
use borrow.Author.Tests.{leb-true, lt-ltb, ltb-true}
use Rattle.rules.specs.Text.{all, is_packed}
use Rattle.rules.specs.Placing.{entries_in, externals_in, Code, code_in, length_in, count_in}
use Rattle.rules.specs.declared.line.CodeWord.{CodeWord}
use Rattle.rules.specs.declared.line.Entry.{Entry}
use Rattle.rules.specs.declared.reading.Part.{Part}
use Rattle.rules.specs.declared.reading.Part.TheVariants.{EntryPart, ExternalPart, BlockPart, WordPart}
use Rattle.rules.proofs.TestLaws.{and_intro, and_left, and_right, all_append, all_weaken, all_cons, all_first, all_rest}
use Rattle.rules.proofs.LineLaws.{legal_entry, legal_word}

-- ---- two lists of parts, joined

pub entries_append : (ps qs : List Part) → entries_in (ps ++ qs) ≡ entries_in ps ++ entries_in qs
unfolding entries_in
entries_append [] qs = refl
entries_append (EntryPart e ∷ ps) qs = ap (◌∷◌ e) (entries_append ps qs)
entries_append (ExternalPart x ∷ ps) qs = entries_append ps qs
entries_append (BlockPart o c ∷ ps) qs = entries_append ps qs
entries_append (WordPart a w ∷ ps) qs = entries_append ps qs

pub externals_append : (ps qs : List Part) → externals_in (ps ++ qs) ≡ externals_in ps ++ externals_in qs
unfolding externals_in
externals_append [] qs = refl
externals_append (EntryPart e ∷ ps) qs = externals_append ps qs
externals_append (ExternalPart x ∷ ps) qs = ap (◌∷◌ x) (externals_append ps qs)
externals_append (BlockPart o c ∷ ps) qs = externals_append ps qs
externals_append (WordPart a w ∷ ps) qs = externals_append ps qs

pub code_append : (ps qs : List Part) → code_in (ps ++ qs) ≡ code_in ps ++ code_in qs
unfolding code_in
code_append [] qs = refl
code_append (EntryPart e ∷ ps) qs = code_append ps qs
code_append (ExternalPart x ∷ ps) qs = code_append ps qs
code_append (BlockPart o c ∷ ps) qs = code_append ps qs
code_append (WordPart a w ∷ ps) qs = rw (code_append ps qs)

pub length_in_append : (ps qs : List Part) → length_in (ps ++ qs) ≡ max (length_in ps) (length_in qs)
unfolding length_in
length_in_append [] qs = omega arith
length_in_append (EntryPart e ∷ ps) qs = length_in_append ps qs
length_in_append (ExternalPart x ∷ ps) qs = length_in_append ps qs
length_in_append (BlockPart o c ∷ ps) qs = omega (arith, length_in_append ps qs)
length_in_append (WordPart a w ∷ ps) qs = length_in_append ps qs

pub count_append : (ps qs : List Part) → count_in (ps ++ qs) ≡ count_in ps + count_in qs
unfolding count_in
count_append [] qs = omega arith
count_append (EntryPart e ∷ ps) qs = count_append ps qs
count_append (ExternalPart x ∷ ps) qs = count_append ps qs
count_append (BlockPart o c ∷ ps) qs = omega (arith, count_append ps qs)
count_append (WordPart a w ∷ ps) qs = count_append ps qs

-- ---- sound parts

unfoldable pub legal_part : Part → Bool
legal_part (EntryPart e) = legal_entry e
legal_part (ExternalPart x) = is_packed x
legal_part (BlockPart o c) = leb o 65535 && leb c 65535
legal_part (WordPart a w) = legal_word w

-- does a code word stand below n
abbrev pub code_below : ℕ → Code → Bool
code_below n c = ltb c.address n

-- legal parts with n code words, within the limits of document 01, the words inside the module's length
pub record PartsSound (ps : List Part) (n : ℕ) : Type 0 where
  pub legal : all legal_part ps ≡ true
  pub few_entries : length (entries_in ps) ≤ 64
  pub few_externals : length (externals_in ps) ≤ 64
  pub counted : length (code_in ps) ≡ n
  pub below : all (code_below (length_in ps)) (code_in ps) ≡ true

pub no_parts : PartsSound [] 0
unfolding all entries_in externals_in code_in
no_parts = record { legal = refl; few_entries = omega arith; few_externals = omega arith; counted = refl; below = refl }

codes_below : (n k : ℕ) (cs : List Code) → n ≤ k → all (code_below n) cs ≡ true → all (code_below k) cs ≡ true
codes_below n k cs l h =
    all_weaken (code_below n) (code_below k) (λ c b. lt-ltb c.address k (omega (arith, ltb-true c.address n b))) cs h

-- sound parts and one more that is legal and keeps the limits
add_part_lem :
    (ps : List Part) (p : Part) (n k : ℕ) → PartsSound ps n → legal_part p ≡ true →
    n + length (code_in (p ∷ [])) ≡ k →
    length (entries_in ps) + length (entries_in (p ∷ [])) ≤ 64 →
    length (externals_in ps) + length (externals_in (p ∷ [])) ≤ 64 →
    all (code_below (max (length_in ps) (length_in (p ∷ [])))) (code_in (p ∷ [])) ≡ true →
    PartsSound (ps ++ (p ∷ [])) k
unfolding all
add_part_lem ps p n k s l c e x b =
    record {
      legal = rw all_append (and_intro s.legal (and_intro l refl));
      few_entries = simp (entries_append, length-append) e;
      few_externals = simp (externals_append, length-append) x;
      counted = simp (code_append, length-append, s.counted) c;
      below =
          simp
          (length_in_append, code_append, all_append)
          (and_intro (codes_below (length_in ps) (max (length_in ps) (length_in (p ∷ []))) (code_in ps) (omega arith) s.below) b);
    }

-- one more entry, external, CODE header or code word
module _ {ps : List Part} {n : ℕ} (s : PartsSound ps n) where
  pub add_entry : (e : Entry) → legal_entry e ≡ true → length (entries_in ps) < 64 → PartsSound (ps ++ (EntryPart e ∷ [])) n
  unfolding legal_part entries_in externals_in code_in all
  add_entry e l h = add_part_lem ps (EntryPart e) n n s l (omega arith) (omega arith) (omega arith) refl

  pub add_external : (x : ℕ) → is_packed x ≡ true → length (externals_in ps) < 64 → PartsSound (ps ++ (ExternalPart x ∷ [])) n
  unfolding legal_part entries_in externals_in code_in all
  add_external x l h = add_part_lem ps (ExternalPart x) n n s l (omega arith) (omega arith) (omega arith) refl

  pub add_block : (o c : ℕ) → legal_part (BlockPart o c) ≡ true → PartsSound (ps ++ (BlockPart o c ∷ [])) n
  unfolding entries_in externals_in code_in all
  add_block o c l = add_part_lem ps (BlockPart o c) n n s l (omega arith) (omega arith) (omega arith) refl

  pub add_word : (a : ℕ) (w : CodeWord) → legal_word w ≡ true → a < length_in ps → PartsSound (ps ++ (WordPart a w ∷ [])) (n + 1)
  unfolding legal_part entries_in externals_in code_in length_in all
  add_word a w l h =
      add_part_lem ps (WordPart a w) n (n + 1) s l (omega arith) (omega arith) (omega arith) (and_intro (lt-ltb a (max (length_in ps) 0) (omega arith)) refl)

-- ---- what legal parts hold

pub legal_entries : (ps : List Part) → all legal_part ps ≡ true → all legal_entry (entries_in ps) ≡ true
unfolding legal_part entries_in
legal_entries [] h = unfold all in refl
legal_entries (EntryPart e ∷ ps) h = all_cons legal_entry e (entries_in ps) (all_first legal_part _ ps h) (legal_entries ps (all_rest legal_part _ ps h))
legal_entries (ExternalPart x ∷ ps) h = legal_entries ps (all_rest legal_part _ ps h)
legal_entries (BlockPart o c ∷ ps) h = legal_entries ps (all_rest legal_part _ ps h)
legal_entries (WordPart a w ∷ ps) h = legal_entries ps (all_rest legal_part _ ps h)

pub legal_externals : (ps : List Part) → all legal_part ps ≡ true → all is_packed (externals_in ps) ≡ true
unfolding legal_part externals_in
legal_externals [] h = unfold all in refl
legal_externals (EntryPart e ∷ ps) h = legal_externals ps (all_rest legal_part _ ps h)
legal_externals (ExternalPart x ∷ ps) h = all_cons is_packed x (externals_in ps) (all_first legal_part _ ps h) (legal_externals ps (all_rest legal_part _ ps h))
legal_externals (BlockPart o c ∷ ps) h = legal_externals ps (all_rest legal_part _ ps h)
legal_externals (WordPart a w ∷ ps) h = legal_externals ps (all_rest legal_part _ ps h)

abbrev pub legal_code : Code → Bool
legal_code c = legal_word c.word

pub legal_code_lem : (ps : List Part) → all legal_part ps ≡ true → all legal_code (code_in ps) ≡ true
unfolding legal_part code_in
legal_code_lem [] h = unfold all in refl
legal_code_lem (EntryPart e ∷ ps) h = legal_code_lem ps (all_rest legal_part _ ps h)
legal_code_lem (ExternalPart x ∷ ps) h = legal_code_lem ps (all_rest legal_part _ ps h)
legal_code_lem (BlockPart o c ∷ ps) h = legal_code_lem ps (all_rest legal_part _ ps h)
legal_code_lem (WordPart a w ∷ ps) h = all_cons legal_code _ (code_in ps) (all_first legal_part _ ps h) (legal_code_lem ps (all_rest legal_part _ ps h))

-- no module is longer than the largest offset and the largest count together
block_bound : (o c : ℕ) → legal_part (BlockPart o c) ≡ true → cond (eqb c 0) 0 (o + c) ≤ 131070
unfolding legal_part
block_bound o c h =
    let p = leb-true o 65535 (and_left (leb o 65535) (leb c 65535) h) in
    let q = leb-true c 65535 (and_right (leb o 65535) (leb c 65535) h) in
    elim (eqb c 0) as (λ t. cond t 0 (o + c) ≤ 131070) [ true ↦ omega arith | false ↦ omega arith ]

pub length_bound : (ps : List Part) → all legal_part ps ≡ true → length_in ps ≤ 131070
unfolding length_in
length_bound [] h = omega arith
length_bound (EntryPart e ∷ ps) h = length_bound ps (all_rest legal_part _ ps h)
length_bound (ExternalPart x ∷ ps) h = length_bound ps (all_rest legal_part _ ps h)
length_bound (BlockPart o c ∷ ps) h =
    omega (arith, block_bound o c (all_first legal_part _ ps h), length_bound ps (all_rest legal_part _ ps h))
length_bound (WordPart a w ∷ ps) h = length_bound ps (all_rest legal_part _ ps h)

-- The fresh state's cells are zeros, and the loop that writes them.
use Prim.Native.Nat.{ℕ, ◌+◌}
use mathlib.Core.Bool.{true}
use mathlib.Core.List.{List, [], ◌∷◌, map}
use mathlib.Core.Path.{◌≡◌, refl, sym, ap, ◌∙◌}
use native.Mathlib.Omega.{arith}
use lib.ListN.{length, replicate, length-replicate}
use Rattle.rules.specs.Text.{all}
use Rattle.rules.specs.State.{Word, unplaced, different_names, sound_word, no_words, fresh}
use Rattle.state.specs.Layout.{size, text_cell, tag_cell, zeros, padded, encode}
use Rattle.state.specs.Good.{Tidy, Holds}
use Rattle.state.proofs.ListLaws.{map_replicate, zeros_add, all_replicate}
use Rattle.state.proofs.RegionLaws.{flat}
use Rattle.state.proofs.LayoutLaws.{holds}

-- at a number that does not compute
none : ℕ → List Word
none n = replicate n unplaced

no_words_lem : no_words ≡ none 4096
unfolding no_words none
no_words_lem = refl

none_long : (n : ℕ) → length (none n) ≡ n
unfolding none
none_long n = length-replicate n unplaced

none_sound : (k n : ℕ) → all (sound_word k) (none n) ≡ true
unfolding none sound_word
none_sound k n = all_replicate (sound_word k) n unplaced refl

none_cells : (f : Word → ℕ) (n : ℕ) → f unplaced ≡ 0 → map f (none n) ≡ zeros n
unfolding none zeros
none_cells f n e = map_replicate f n unplaced ∙ ap (replicate n) e

no_table : (n : ℕ) → padded n [] ≡ zeros n
unfolding padded
no_table n = ap zeros (omega arith)

fresh_tidy : Tidy fresh
unfolding fresh all different_names
fresh_tidy =
    record {
      few = omega arith;
      values = refl;
      different = refl;
      full = ap length no_words_lem ∙ none_long 4096;
      words = ap (all (sound_word 0)) no_words_lem ∙ none_sound 0 4096;
      low = omega arith;
    }

four_zeros : 0 ∷ 0 ∷ 0 ∷ 0 ∷ [] ≡ zeros 4
unfolding zeros
four_zeros = refl

all_zeros : (a b c d e : ℕ) → flat (zeros a) (zeros b) (zeros c) (zeros d) (zeros e) ≡ zeros (a + (b + (c + (d + e))))
all_zeros a b c d e = simp zeros_add

fresh_cells : encode fresh ≡ zeros size
unfolding encode fresh
fresh_cells =
    let texts : map text_cell no_words ≡ zeros 4096 = ap (map text_cell) no_words_lem ∙ none_cells text_cell 4096 refl in
    let tags : map tag_cell no_words ≡ zeros 4096 = ap (map tag_cell) no_words_lem ∙ none_cells tag_cell 4096 refl in
    (λ i. flat (four_zeros i) (no_table 256 i) (no_table 256 i) (texts i) (tags i)) ∙ all_zeros 4 256 256 4096 4096

-- as many zeros as the memory has cells
pub cleared : (before now : List ℕ) → length before ≡ size → now ≡ replicate (length before) 0 → Holds now fresh
unfolding zeros
cleared before now l e = holds now fresh fresh_tidy (e ∙ ap (λ n. replicate n 0) l ∙ sym fresh_cells)

-- A word's record, from its tag and its text.
use Rattle.std.proofs.Common.{◌≡◌, ℕ, List, [], length, get_or, sym, refl, ap, Some, None}
use Rattle.rules.specs.State.{Symbol, Word, unplaced, plain, refers, State}
use Rattle.rules.specs.Image.{value_of, completed, two, quarters, word_record, record_of}
use Rattle.state.specs.declared.words.Placed.TheVariants.{Plain, Refers}
use Rattle.state.specs.Layout.{text_cell}
use Rattle.state.specs.Words.{tag_of}
use Rattle.image.specs.Output.{record_at}

pub word_length : (a w : ℕ) → length (word_record a w) ≡ 11
unfolding word_record quarters two
word_length a w = refl

module _ (t : List Symbol) (a text : ℕ) where
  none_of : (w : Word) → None ≡ tag_of w → record_of t a w ≡ []
  unfolding record_of
  none_of unplaced e = refl
  none_of (plain x) e = cc
  none_of (refers x i) e = cc

  plain_of : (w : Word) → Some Plain ≡ tag_of w → text ≡ text_cell w → record_of t a w ≡ word_record a text
  unfolding record_of
  plain_of unplaced e x = cc
  plain_of (plain y) e x = ap (word_record a) (sym x)
  plain_of (refers y i) e x = cc

  linked_of : (j : ℕ) (w : Word) → Some (Refers j) ≡ tag_of w → text ≡ text_cell w →
      record_of t a w ≡ word_record a (completed text (value_of t j))
  unfolding record_of
  linked_of j unplaced e x = cc
  linked_of j (plain y) e x = cc
  linked_of j (refers y i) e x = let same : j ≡ i = cc in rw (same, x)

module _ (s : State) (a : ℕ) where
  pub record_none : None ≡ tag_of (get_or s.words a unplaced) → record_at s a ≡ []
  record_none e = none_of s.symbols a 0 (get_or s.words a unplaced) e

  module _ (text : ℕ) (t : text ≡ text_cell (get_or s.words a unplaced)) where
    pub record_plain : Some Plain ≡ tag_of (get_or s.words a unplaced) → record_at s a ≡ word_record a text
    record_plain e = plain_of s.symbols a text (get_or s.words a unplaced) e t

    pub record_linked : (j : ℕ) → Some (Refers j) ≡ tag_of (get_or s.words a unplaced) →
        record_at s a ≡ word_record a (completed text (value_of s.symbols j))
    record_linked j e = linked_of s.symbols a text j (get_or s.words a unplaced) e t

-- The table of symbols in cells: what a store of a symbol makes of good memory.
use Rattle.std.specs.Prelude.{Result, Ok, Err, Some, None}
use Prim.Native.Nat.{ℕ, ◌+◌, ◌≤◌, ◌<◌}
use mathlib.Core.Bool.{Bool, true, false, cond, not, ◌&&◌}
use mathlib.Core.List.{List, [], ◌∷◌, map}
use mathlib.Core.Logic.{◌≢◌}
use mathlib.Core.Path.{◌≡◌, refl, sym, ap, subst, ◌∙◌}
use native.Mathlib.Omega.{arith}
use borrow.Author.Tests.{le-leb, lt-leb}
use lib.ListN.{length, get_or, set, length-map}
use lib.Seq.{set-get_or, get_or-set_other}
use lib.Dec.{leb}
use Rattle.rules.specs.Text.{any}
use Rattle.rules.specs.State.{Symbol, symbol, name_is, is_defined, is_undefined, State}
use Rattle.rules.specs.Placing.{define, mention}
use Rattle.rules.specs.Calls.{with_symbols}
use Rattle.rules.specs.declared.answer.Reason.{Reason}
use Rattle.rules.specs.declared.answer.Reason.TheVariants.{Table}
use Rattle.state.specs.Layout.{name_cell, value_cell, mark_cell, padded, header, names, values, texts, tags, encode, symbol_in, decode}
use Rattle.state.specs.Good.{sound_value, Tidy, Good, Holds}
use Rattle.state.specs.Table.{no_symbol, Position, Stands, Joined, MentionedAt}
use Rattle.state.proofs.ListLaws.{put, length_put, map_put, set_padded}
use Rattle.state.proofs.RegionLaws.{flat, set_name, set_value}
use Rattle.state.proofs.LayoutLaws.{table_long, holds, good_holds, count_is, symbol_is_lem, unused_value}
use Rattle.state.proofs.BoolLaws.{both}
use Rattle.state.proofs.JoinLaws.{define_put, mention_known, mention_new, put_tidy, at_place, at_no_place}

-- ---- a symbol stored at a position of the table, or just behind it

module _ (s : State) (few : length s.symbols ≤ 256) (i : ℕ) (l : i ≤ length s.symbols) (h : i < 256) (a : Symbol) where
  abbrev after : State
  after = with_symbols (put i a s.symbols) s

  column : (f : Symbol → ℕ) → set (padded 256 (map f s.symbols)) i (f a) ≡ padded 256 (map f (put i a s.symbols))
  column f =
      set_padded 256 (map f s.symbols) i (f a) (omega (arith, length-map s.symbols f)) h
      ∙ ap (padded 256) (sym (map_put f i a s.symbols))

  -- a memory with these names and values, whose header counts n symbols
  abbrev counting : ℕ → List ℕ
  counting n = flat (n ∷ s.next ∷ mark_cell s.mark ∷ 0 ∷ []) (names after) (values after) (texts s) (tags s)

  -- all cells but the count
  cells_put : set (set (encode s) (4 + i) (name_cell a)) (260 + i) (value_cell a) ≡ counting (length s.symbols)
  unfolding encode
  cells_put =
      ap (λ (r : List ℕ). set r (260 + i) (value_cell a))
      (set_name (header s) (names s) (values s) (texts s) (tags s) refl (table_long s few name_cell) i (name_cell a) h
      ∙ ap (λ (r : List ℕ). flat (header s) r (values s) (texts s) (tags s)) (column name_cell))
      ∙ set_value (header s) (names after) (values s) (texts s) (tags s) refl (table_long after (omega (arith, length_put i a s.symbols l)) name_cell) (table_long s few value_cell) i (value_cell a) h
      ∙ ap (λ (r : List ℕ). flat (header s) (names after) r (texts s) (tags s)) (column value_cell)

  -- where the count stays, and where it grows
  cells_inside : i < length s.symbols → set (set (encode s) (4 + i) (name_cell a)) (260 + i) (value_cell a) ≡ encode after
  unfolding encode
  cells_inside b = cells_put ∙ ap counting (omega (arith, length_put i a s.symbols l))

  cells_behind : length s.symbols ≤ i → set (set (set (encode s) (4 + i) (name_cell a)) (260 + i) (value_cell a)) 0 (i + 1) ≡ encode after
  unfolding encode
  cells_behind b =
      ap (λ (r : List ℕ). set r 0 (i + 1)) cells_put ∙ ap counting (omega (arith, length_put i a s.symbols l))

-- ---- what define and mention leave

module _ {A : Type 0} (t : List Symbol) (s : State) (cells : List ℕ) where
  joined_yes : (a : A) → length t ≤ 256 → Holds cells (with_symbols t s) → Joined t s (Ok a) cells
  joined_yes a h k =
      let e : leb (length t) 256 ≡ true = le-leb (length t) 256 h in
      record { room = sym e; full = tt; holds = rw e k }

  joined_no : 256 < length t → Holds cells s → Joined {A = A} t s (Err Table) cells
  joined_no h k =
      let e : leb (length t) 256 ≡ false = lt-leb (length t) 256 h in
      record { room = sym e; full = refl; holds = rw e k }

-- for callers: the two answers
module _ {A : Type 0} {t : List Symbol} {s : State} {cells : List ℕ} where
  pub joined_holds : {a : A} → Joined t s (Ok a) cells → Holds cells (with_symbols t s)
  joined_holds j = subst (λ (b : Bool). Holds cells (cond b (with_symbols t s) s)) (sym j.room) j.holds

module _ {cells : List ℕ} (g : Good cells) {x i : ℕ} (p : Position x (decode cells).symbols i) where
  abbrev t : List Symbol
  t = (decode cells).symbols

  module _ (v : ℕ) (d : Bool) (y : sound_value (symbol x v d) ≡ true) (h : i < 256) where
    abbrev new : Symbol
    new = symbol x v d

    tidy_now : Tidy (with_symbols (put i new t) (decode cells))
    tidy_now =
        subst (λ (j : ℕ). Tidy (with_symbols (put j new t) (decode cells))) (sym p.is)
        (put_tidy (decode cells) g.tidy x v d y (omega (arith, p.is)))

    put_inside : {A : Type 0} (a : A) → i < get_or cells 0 0 → Joined (put i new t) (decode cells) (Ok a) (set (set cells (4 + i) x) (260 + i) (value_cell new))
    put_inside a b =
        let after = set (set cells (4 + i) x) (260 + i) (value_cell new) in
        joined_yes (put i new t) (decode cells) after a tidy_now.few
        (holds after (with_symbols (put i new t) (decode cells)) tidy_now
        (ap (λ (r : List ℕ). set (set r (4 + i) x) (260 + i) (value_cell new)) g.encoded
        ∙ cells_inside (decode cells) g.tidy.few i p.most h new (omega (arith, count_is cells))))

    put_behind : {A : Type 0} (a : A) → get_or cells 0 0 ≤ i → Joined (put i new t) (decode cells) (Ok a) (set (set (set cells (4 + i) x) (260 + i) (value_cell new)) 0 (i + 1))
    put_behind a b =
        let after = set (set (set cells (4 + i) x) (260 + i) (value_cell new)) 0 (i + 1) in
        joined_yes (put i new t) (decode cells) after a tidy_now.few
        (holds after (with_symbols (put i new t) (decode cells)) tidy_now
        (ap (λ (r : List ℕ). set (set (set r (4 + i) x) (260 + i) (value_cell new)) 0 (i + 1)) g.encoded
        ∙ cells_behind (decode cells) g.tidy.few i p.most h new (omega (arith, count_is cells))))

  put_full : {A : Type 0} (a : Symbol) → i ≡ 256 → Joined {A = A} (put i a t) (decode cells) (Err Table) cells
  put_full a e =
      joined_no (put i a t) (decode cells) cells (omega (arith, length_put i a t p.most))
      (good_holds g)

  -- ---- in the words of the code

  module _ (v : ℕ) where
    as_defined : {A : Type 0} (r : Result A Reason) (after : List ℕ) → Joined (put i (symbol x v true) t) (decode cells) r after → Joined (define x v t) (decode cells) r after
    as_defined r after =
        subst (λ (l : List Symbol). Joined l (decode cells) r after)
        (ap (λ (j : ℕ). put j (symbol x v true) t) p.is ∙ sym (define_put x v t))

    pub define_full : i ≡ 256 → Joined {A = Unit {0}} (define x v t) (decode cells) (Err Table) cells
    define_full e = as_defined (Err Table) cells (put_full (symbol x v true) e)

    module _ (f : v < 65536) (e : i ≢ 256) where
      sixteen : sound_value (symbol x v true) ≡ true
      unfolding sound_value
      sixteen = both (leb v 65535) true (le-leb v 65535 (omega arith)) refl

      within : i < 256
      within = omega (arith, p.most, g.tidy.few)

      pub define_inside : i < get_or cells 0 0 → Joined {A = Unit {0}} (define x v t) (decode cells) (Ok tt) (set (set cells (4 + i) x) (260 + i) (v + 65536))
      define_inside b = as_defined (Ok tt) _ (put_inside v true sixteen within tt b)

      pub define_behind : get_or cells 0 0 ≤ i → Joined {A = Unit {0}} (define x v t) (decode cells) (Ok tt) (set (set (set cells (4 + i) x) (260 + i) (v + 65536)) 0 (i + 1))
      define_behind b = as_defined (Ok tt) _ (put_behind v true sixteen within tt b)

  pub mention_inside : i < get_or cells 0 0 → MentionedAt x (decode cells) (Ok i) cells
  mention_inside b =
      record {
        at = (omega (arith, g.few), p.is);
        joined =
            rw (mention_known x t (omega (arith, p.is, count_is cells)))
            (joined_yes t (decode cells) cells i g.tidy.few (good_holds g));
      }

  module _ (b : get_or cells 0 0 ≤ i) where
    as_mentioned : (r : Result ℕ Reason) (after : List ℕ) → Joined (put i (symbol x 0 false) t) (decode cells) r after → Joined (mention x t) (decode cells) r after
    as_mentioned r after =
        subst (λ (l : List Symbol). Joined l (decode cells) r after)
        (ap (λ (j : ℕ). put j (symbol x 0 false) t) p.is
        ∙ sym (mention_new x t (omega (arith, p.is, count_is cells))))

    pub mention_full : i ≡ 256 → MentionedAt x (decode cells) (Err Table) cells
    mention_full e =
        record {
          at = sym e ∙ p.is;
          joined = as_mentioned (Err Table) cells (put_full (symbol x 0 false) e);
        }

    -- the value's cell is 0 already
    kept : i < 256 → set (set cells (4 + i) x) (260 + i) 0 ≡ set cells (4 + i) x
    kept h =
        let z : get_or (set cells (4 + i) x) (260 + i) 0 ≡ 0 =
        get_or-set_other cells (4 + i) (260 + i) x 0 (omega arith) ∙ unused_value g i b h in
        ap (set (set cells (4 + i) x) (260 + i)) (sym z) ∙ set-get_or (set cells (4 + i) x) (260 + i) 0

    pub mention_behind : i ≢ 256 → MentionedAt x (decode cells) (Ok i) (set (set cells (4 + i) x) 0 (i + 1))
    unfolding sound_value
    mention_behind e =
        let h : i < 256 = omega (arith, p.most, g.tidy.few) in
        record {
          at = (h, p.is);
          joined =
              subst (λ (r : List ℕ). Joined (mention x t) (decode cells) (Ok i) (set r 0 (i + 1))) (kept h)
              (as_mentioned (Ok i) _ (put_behind 0 false refl h i b));
        }

-- ---- asking for a name

module _ {cells : List ℕ} (g : Good cells) {x i : ℕ} (p : Position x (decode cells).symbols i) where
  name_there : (q : Symbol → Bool) → i < get_or cells 0 0 → any (λ s. name_is x s && q s) (decode cells).symbols ≡ q (symbol_in cells i)
  name_there q b =
      at_place x q (decode cells).symbols g.tidy.different (omega (arith, p.is, count_is cells))
      ∙ ap (λ (j : ℕ). q (get_or (decode cells).symbols j no_symbol)) (sym p.is)
      ∙ ap q (symbol_is_lem cells i b)

  name_absent : (q : Symbol → Bool) → get_or cells 0 0 ≤ i → any (λ s. name_is x s && q s) (decode cells).symbols ≡ false
  name_absent q b = at_no_place x q (decode cells).symbols (omega (arith, p.is, count_is cells))

  pub stands_there : i < get_or cells 0 0 → Stands x (decode cells).symbols (Some (symbol_in cells i).defined)
  unfolding is_defined is_undefined
  stands_there b = (name_there (λ s. s.defined) b, name_there (λ s. not s.defined) b)

  pub stands_absent : get_or cells 0 0 ≤ i → Stands x (decode cells).symbols None
  unfolding is_defined is_undefined
  stands_absent b = (name_absent (λ s. s.defined) b, name_absent (λ s. not s.defined) b)

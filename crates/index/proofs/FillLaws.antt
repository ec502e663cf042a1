-- The modules of a section are added to the index, part by part.
use Prim.Native.Nat.{ℕ, suc, ◌+◌, ◌-◌, ◌*◌, ◌/◌, ◌<◌, ◌≤◌}
use native.Mathlib.Nat.{add-zero}
use native.Mathlib.Omega.{arith}
use native.Mathlib.Decide.{ℕ_discrete}
use mathlib.Core.Bool.{Bool, true, false, cond, not, ◌||◌}
use mathlib.Core.List.{List, [], ◌∷◌, ◌++◌}
use mathlib.Core.Logic.{◌⊎◌, inl, inr}
use mathlib.Core.Path.{◌≡◌, refl, sym, ap, ap₂, subst, ◌∙◌}
use lib.ListN.{length, get_or, take, drop, length-take}
use lib.Seq.{get_or-take, get_or-drop}
use lib.Dec.{eqb}
use borrow.Author.Tests.{eqb-true, eq-eqb, ne_eqb, not-false}
use Rattle.rules.specs.Text.{any}
use Rattle.rules.specs.Placing.{twice, entries_in}
use Rattle.rules.specs.Load.{entry_names, section_names}
use Rattle.rules.proofs.BoolLaws.{never, eqb_same}
use Rattle.tables.specs.Tables.{head_in, body_in, start_in, end_in, cells_in, module_in, modules_in}
use Rattle.tables.specs.Heads.{parts_from, is_entry, names_in}
use Rattle.tables.proofs.HeadLaws.{parts_done, names_next}
use Rattle.index.specs.Index.{count_of, name_at, owner_at, last_where, named, holds, Indexed, Sought, entered, Added, PartAdded, names_from, Owner, Owns, clash, Filled, Cleared, Tested}
use Rattle.index.proofs.LastLaws.{last_most, last_same, last_next}
use Rattle.index.proofs.EnterLaws.{cleared_indexed, entry_added}

-- ---- tests of lists

any_same : (p q : ℕ → Bool) → ((x : ℕ) → p x ≡ q x) → (xs : List ℕ) → any p xs ≡ any q xs
unfolding any
any_same p q f [] = refl
any_same p q f (x ∷ xs) = ap₂ ◌||◌ (f x) (any_same p q f xs)

any_none : (p : ℕ → Bool) → ((x : ℕ) → p x ≡ false) → (xs : List ℕ) → any p xs ≡ false
unfolding any
any_none p f [] = refl
any_none p f (x ∷ xs) = rw (f x) (any_none p f xs)

swap : (a b c d : Bool) → ((a || b) || (c || d)) ≡ ((a || c) || (b || d))
swap true b c d = refl
swap false true true d = refl
swap false true false d = refl
swap false false c d = refl

any_either : (p q : ℕ → Bool) (xs : List ℕ) → any (λ x. p x || q x) xs ≡ (any p xs || any q xs)
unfolding any
any_either p q [] = refl
any_either p q (x ∷ xs) = ap (λ b. (p x || q x) || b) (any_either p q xs) ∙ swap (p x) (q x) (any p xs) (any q xs)

-- ---- one entry more

module _ {parts : List ℕ} {part owner : ℕ} {before after : List ℕ} (a : Added parts part owner before after) where
  abbrev z : ℕ
  z = body_in parts part

  abbrev n : ℕ
  n = count_of before

  named_after : (y : ℕ) {b : Bool} → eqb z y ≡ b → named parts after y ≡ cond b (suc n) (named parts before y)
  named_after y {b} e =
      let more : count_of after ≡ suc n = omega (arith, a.count) in
      ap (last_where (λ k. eqb (name_at parts after k) y)) more
      ∙ last_next (λ k. eqb (name_at parts after k) y) n (ap (λ v. eqb v y) a.name ∙ e)
      ∙ ap (cond b (suc n)) (last_same _ _ n (λ k h. ap (λ v. eqb v y) (a.names k h)))

  holds_after : (y : ℕ) → holds parts after y ≡ (eqb z y || holds parts before y)
  holds_after y = go (eqb z y) refl
    where
      go : (b : Bool) → eqb z y ≡ b → holds parts after y ≡ (b || holds parts before y)
      go true e = ap (λ k. not (eqb k 0)) (named_after y e) ∙ ap not (ne_eqb (suc n) 0 (λ z. omega (arith, z)))
      go false e = ap (λ k. not (eqb k 0)) (named_after y e)

  module _ (h : holds parts before z ≡ false) where
    -- what the test comes to stays
    pub clash_after : (rest : List ℕ) → clash parts after rest ≡ clash parts before (z ∷ rest)
    unfolding twice any
    clash_after rest =
        ap (λ b. twice rest || b) (any_same _ _ holds_after rest ∙ any_either (eqb z) (holds parts before) rest)
        ∙ go (any (eqb z) rest) (twice rest) (any (holds parts before) rest)
        ∙ ap (λ b. (any (eqb z) rest || twice rest) || (b || any (holds parts before) rest)) (sym h)
      where
        go : (a t b : Bool) → (t || (a || b)) ≡ ((a || t) || (false || b))
        go true true b = refl
        go true false b = refl
        go false t b = assoc t b
          where
            assoc : (t b : Bool) → (t || (false || b)) ≡ ((false || t) || (false || b))
            assoc true b = refl
            assoc false b = refl

    -- an entry keeps its module
    pub owner_kept : (y i : ℕ) → Owner parts before y i → Owner parts after y i
    owner_kept y i o = go (eqb z y) refl
      where
        none : named parts before z ≡ 0
        none = eqb-true _ _ (not-false _ h)

        go : (b : Bool) → eqb z y ≡ b → Owner parts after y i
        go true e = absurd (o.there (ap (named parts before) (sym (eqb-true z y e)) ∙ none))
        go false e =
            let same : named parts after y ≡ named parts before y = named_after y e in
            let low : named parts before y ≤ n = last_most (λ k. eqb (name_at parts before k) y) n in
            record {
              there = λ q. o.there (sym same ∙ q);
              is =
                  ap (λ k. owner_at after (k - 1)) same
                  ∙ a.owners (named parts before y - 1) (omega (arith, low, o.there))
                  ∙ o.is;
            }

  -- the new entry has its own
  pub owner_new : Owner parts after z owner
  owner_new =
      let it : named parts after z ≡ suc n = named_after z (eqb_same z) in
      let back : suc n - 1 ≡ n = omega arith in
      record {
        there = λ q. omega (arith, it, q);
        is = ap (λ k. owner_at after (k - 1)) it ∙ ap (owner_at after) back ∙ a.owned;
      }

-- ---- a part, if it is an entry

module _ {parts : List ℕ} (part owner : ℕ) {before : List ℕ} where
  module _ (g : Indexed parts before) (e : is_entry (head_in parts part) ≡ true) {name at : ℕ} (q : name ≡ body_in parts part)
      (s : Sought parts before name at) where
    own : Sought parts before (body_in parts part) at
    own = subst (λ y. Sought parts before y at) q s

    pub part_new : owner < 256 → (is_entry (head_in parts part) ≡ true → count_of before < 16384) → get_or before at 0 ≡ 0 →
        {after : List ℕ} → after ≡ entered at part owner before → PartAdded parts part owner before false after
    part_new o f z {after} i =
        let a : Added parts part owner before after =
        subst (Added parts part owner before) (sym i) (entry_added part g own z o (f e)) in
        record {
          long = a.indexed.long;
          other = λ h. never e h;
          again = λ _ r. never r refl;
          new = λ _ _. (ap not (eq-eqb _ _ (sym own.found.is ∙ z)), a);
        }

-- ---- the cells of a module

lent_cell : (l : List ℕ) (a k i : ℕ) → i < length (take k (drop a l)) → get_or (take k (drop a l)) i 0 ≡ get_or l (a + i) 0
lent_cell l a k i h =
    get_or-take k (drop a l) i 0 (omega (arith, length-take k (drop a l))) ∙ get_or-drop a l i 0

module _ (parts rows : List ℕ) (first n m : ℕ) where
  abbrev names : ℕ → List ℕ
  names i = entry_names (module_in parts rows (first + i))

  abbrev behind : List ℕ
  behind = names_from parts rows first n (m + 1)

  abbrev whole : Bool
  whole = twice (names_from parts rows first n 0)

  -- the names from the m-th module on
  names_split : m < n → names_from parts rows first n m ≡ names m ++ behind
  unfolding modules_in section_names
  names_split h =
      let more : n - m ≡ suc (n - (m + 1)) = omega arith in
      let on : first + m + 1 ≡ first + (m + 1) = omega arith in
      ap (λ k. section_names (modules_in parts rows (first + m) k)) more
      ∙ ap (λ k. names m ++ section_names (modules_in parts rows k (n - (m + 1)))) on

  module _ {cells : List ℕ} (lent : cells ≡ cells_in parts (start_in rows (first + m)) (end_in rows (first + m))) where
    names_lent : names m ≡ names_in (parts_from cells 0)
    unfolding entry_names module_in
    names_lent = ap (λ l. names_in (parts_from l 0)) (sym lent)

    -- the names from part q on
    abbrev from : ℕ → List ℕ
    from q = names_in (parts_from cells (2 * q))

    -- the parts before q have been added
    pub record Adding (q : ℕ) (index : List ℕ) : Type 0 where
      pub indexed : Indexed parts index
      pub room : count_of index + length (from q) ≤ 64 * (m + 1)
      pub comes : clash parts index (from q ++ behind) ≡ whole
      pub owned : (i : ℕ) → i < m → (y : ℕ) → any (eqb y) (names i) ≡ true → Owner parts index y i
      pub here : (y : ℕ) → any (eqb y) (from 0) ≡ true → (any (eqb y) (from q) ≡ true) ⊎ Owner parts index y m

    pub adding_start : m < n → length (names m) ≤ 64 → {index : List ℕ} → Filled parts rows first n m index → Adding 0 index
    adding_start h s {index} f =
        record {
          indexed = f.owns.indexed;
          room = let few : length (from 0) ≤ 64 = subst (λ l. length l ≤ 64) names_lent s in omega (arith, few, f.room);
          comes = ap (λ l. clash parts index (l ++ behind)) (sym names_lent) ∙ ap (clash parts index) (sym (names_split h)) ∙ f.comes;
          owned = f.owns.owned;
          here = λ y e. inl e;
        }

    module _ {q start : ℕ} (l : q < length cells / 2) (s : start ≡ start_in rows (first + m)) where
      inside : 1 < length cells - 2 * q
      inside = omega arith

      abbrev part : ℕ
      part = start + q

      head_is : get_or cells (2 * q) 0 ≡ head_in parts part
      head_is =
          let at : 2 * start_in rows (first + m) + 2 * q ≡ 2 * part = omega (arith, s) in
          ap (λ c. get_or c (2 * q) 0) lent
          ∙ lent_cell parts (2 * start_in rows (first + m)) (2 * end_in rows (first + m) - 2 * start_in rows (first + m)) (2 * q) (subst (λ c. 2 * q < length c) lent (omega arith))
          ∙ ap (λ i. get_or parts i 0) at

      body_is : get_or cells (2 * q + 1) 0 ≡ body_in parts part
      body_is =
          let at : 2 * start_in rows (first + m) + (2 * q + 1) ≡ 2 * part + 1 = omega (arith, s) in
          ap (λ c. get_or c (2 * q + 1) 0) lent
          ∙ lent_cell parts (2 * start_in rows (first + m)) (2 * end_in rows (first + m) - 2 * start_in rows (first + m)) (2 * q + 1) (subst (λ c. 2 * q + 1 < length c) lent (omega arith))
          ∙ ap (λ i. get_or parts i 0) at

      -- the names from this part on, by what the part is
      from_next : {b : Bool} → is_entry (head_in parts part) ≡ b → from q ≡ cond b (body_in parts part ∷ from (q + 1)) (from (q + 1))
      from_next {b} e =
          let on : 2 * q + 2 ≡ 2 * (q + 1) = omega arith in
          names_next cells (2 * q) inside
          ∙ ap (λ h. cond (is_entry h) (get_or cells (2 * q + 1) 0 ∷ names_in (parts_from cells (2 * q + 2))) (names_in (parts_from cells (2 * q + 2)))) head_is
          ∙ ap (λ t. cond t (get_or cells (2 * q + 1) 0 ∷ names_in (parts_from cells (2 * q + 2))) (names_in (parts_from cells (2 * q + 2)))) e
          ∙ ap (λ x. cond b (x ∷ names_in (parts_from cells (2 * q + 2))) (names_in (parts_from cells (2 * q + 2)))) body_is
          ∙ ap (λ i. cond b (body_in parts part ∷ names_in (parts_from cells i)) (names_in (parts_from cells i))) on

      -- an entry finds room
      pub entry_fits : m < 256 → {index : List ℕ} → Adding q index → is_entry (head_in parts part) ≡ true → count_of index < 16384
      entry_fits h a e = omega (arith, h, a.room, ap length (from_next e))

      module _ {index after : List ℕ} {r : Bool} (a : Adding q index) (p : PartAdded parts part m index r after) where
        -- another part changes nothing
        next_other : is_entry (head_in parts part) ≡ false → Adding (q + 1) after
        next_other e =
            let same : after ≡ index = (p.other e).1 in
            let rest : from q ≡ from (q + 1) = from_next e in
            subst
            (Adding (q + 1))
            (sym same)
            (record {
              indexed = a.indexed;
              room = omega (arith, a.room, ap length rest);
              comes = ap (λ l. clash parts index (l ++ behind)) (sym rest) ∙ a.comes;
              owned = a.owned;
              here = λ y h. move (a.here y h) rest;
            })
          where
            move : {y : ℕ} → (any (eqb y) (from q) ≡ true) ⊎ Owner parts index y m → from q ≡ from (q + 1) →
                (any (eqb y) (from (q + 1)) ≡ true) ⊎ Owner parts index y m
            move {y} (inl h) rest = inl (ap (any (eqb y)) (sym rest) ∙ h)
            move (inr o) rest = inr o

        -- an entry whose name is new
        next_entry : is_entry (head_in parts part) ≡ true → r ≡ false → Adding (q + 1) after
        unfolding any
        next_entry e f =
            let t = p.new e f in
            let rest : from q ≡ body_in parts part ∷ from (q + 1) = from_next e in
            record {
              indexed = t.1.indexed;
              room = omega (arith, a.room, ap length rest, t.1.count);
              comes =
                  clash_after t.1 t.0 (from (q + 1) ++ behind)
                  ∙ ap (λ l. clash parts index (l ++ behind)) (sym rest)
                  ∙ a.comes;
              owned = λ i b y h. owner_kept t.1 t.0 y i (a.owned i b y h);
              here = λ y h. move y (a.here y h) rest t.1 t.0;
            }
          where
            at : (y : ℕ) (b : Bool) → eqb y (body_in parts part) ≡ b → (b || any (eqb y) (from (q + 1))) ≡ true →
                Added parts part m index after → (any (eqb y) (from (q + 1)) ≡ true) ⊎ Owner parts after y m
            at y true s h t = inr (subst (λ v. Owner parts after v m) (sym (eqb-true y (body_in parts part) s)) (owner_new t))
            at y false s h t = inl h

            move : (y : ℕ) → (any (eqb y) (from q) ≡ true) ⊎ Owner parts index y m → from q ≡ body_in parts part ∷ from (q + 1) →
                Added parts part m index after → holds parts index (body_in parts part) ≡ false →
                (any (eqb y) (from (q + 1)) ≡ true) ⊎ Owner parts after y m
            move y (inl h) rest t u =
                at y (eqb y (body_in parts part)) refl (ap (any (eqb y)) (sym rest) ∙ h) t
            move y (inr o) rest t u = inr (owner_kept t u y m o)

        pub adding_next : r ≡ false → Adding (q + 1) after
        adding_next f = go (is_entry (head_in parts part)) refl
          where
            go : (b : Bool) → is_entry (head_in parts part) ≡ b → Adding (q + 1) after
            go true e = next_entry e f
            go false e = next_other e

        -- a name that was there: it stands twice
        pub adding_again : r ≡ true → whole ≡ true
        unfolding any twice
        adding_again f = go (is_entry (head_in parts part)) refl
          where
            last : (b c d : Bool) → (b || (true || c)) ≡ d → d ≡ true
            last true c d e = sym e
            last false c d e = sym e

            go : (b : Bool) → is_entry (head_in parts part) ≡ b → whole ≡ true
            go true e =
                last
                (twice (body_in parts part ∷ from (q + 1) ++ behind))
                (any (holds parts index) (from (q + 1) ++ behind))
                whole
                (ap (λ t. twice (body_in parts part ∷ from (q + 1) ++ behind) || (t || any (holds parts index) (from (q + 1) ++ behind))) (sym (p.again e f))
                ∙ ap (λ l. clash parts index (l ++ behind)) (sym (from_next e))
                ∙ a.comes)
            go false e = never f (p.other e).0

    pub adding_done : {q : ℕ} → length cells / 2 ≤ q → {index : List ℕ} → Adding q index → Filled parts rows first n (m + 1) index
    unfolding entries_in any
    adding_done {q} h {index} a =
        record {
          owns = record { indexed = a.indexed; owned = λ i b y e. own i b y e (a.owned i) };
          room = omega (arith, a.room);
          comes = ap (λ l. clash parts index (l ++ behind)) (sym none) ∙ a.comes;
        }
      where
        none : from q ≡ []
        none = ap names_in (parts_done cells (2 * q) (omega arith))

        last : {y : ℕ} → (any (eqb y) (from q) ≡ true) ⊎ Owner parts index y m → Owner parts index y m
        last {y} (inl e) = never e (ap (any (eqb y)) none)
        last (inr o) = o

        own : (i : ℕ) → i < m + 1 → (y : ℕ) → any (eqb y) (names i) ≡ true →
            (i < m → (y : ℕ) → any (eqb y) (names i) ≡ true → Owner parts index y i) → Owner parts index y i
        own i b y e f = elim (ℕ_discrete i m) [
          | yes s ↦
              subst
              (Owner parts index y)
              (sym s)
              (last (a.here y (ap (any (eqb y)) (sym names_lent) ∙ ap (λ k. any (eqb y) (names k)) (sym s) ∙ e)))
          | no s ↦ f (omega (arith, b, s)) y e
        ]

-- ---- a section

module _ (parts rows : List ℕ) (first n : ℕ) where
  pub filled_start : {index : List ℕ} → Cleared 2048 index → Filled parts rows first n 0 index
  unfolding last_where
  filled_start {index} c =
      let none : count_of index ≡ 0 = c.zeros 0 (omega arith) in
      record {
        owns = record { indexed = cleared_indexed parts c; owned = λ i b. absurd (omega arith) };
        room = omega (arith, none);
        comes =
            ap
            (λ b. twice (names_from parts rows first n 0) || b)
            (any_none _ (λ y. ap (λ k. not (eqb (last_where (λ j. eqb (name_at parts index j) y) k) 0)) none) (names_from parts rows first n 0))
            ∙ off (twice (names_from parts rows first n 0));
      }
    where
      off : (b : Bool) → (b || false) ≡ b
      off true = refl
      off false = refl

  whole_is : names_from parts rows first n 0 ≡ section_names (modules_in parts rows first n)
  whole_is =
      let all : n - 0 ≡ n = omega arith in
      ap₂ (λ i k. section_names (modules_in parts rows i k)) (add-zero first) all

  pub tested_once : {m : ℕ} {index : List ℕ} → m ≡ n → Filled parts rows first n m index → Tested parts rows first n false index
  unfolding modules_in section_names twice any
  tested_once {m} {index} e f =
      let none : n - m ≡ 0 = omega (arith, e) in
      record {
        long = f.owns.indexed.long;
        is =
            ap (λ k. clash parts index (section_names (modules_in parts rows (first + m) k))) (sym none)
            ∙ f.comes
            ∙ ap twice whole_is;
        owns = λ _. subst (λ k. Owns parts rows first k index) e f.owns;
      }

-- The search for a name in the index.
use Prim.Native.Nat.{ℕ, zero, suc, ◌+◌, ◌-◌, ◌*◌, ◌/◌, ◌<◌, ◌≤◌}
use native.Mathlib.Omega.{arith}
use native.Mathlib.Decide.{ℕ_discrete, dec_lt}
use mathlib.Core.Bool.{Bool}
use mathlib.Core.List.{List}
use mathlib.Core.Logic.{◌≢◌}
use mathlib.Core.Path.{◌≡◌, refl, sym, ap, ap₂, subst, ◌∙◌}
use lib.ListN.{get_or}
use lib.Dec.{eqb}
use borrow.Author.Tests.{eqb-true, eq-eqb}
use Rattle.rules.proofs.BoolLaws.{never}
use Rattle.tables.specs.Tables.{body_in}
use Rattle.index.specs.Index.{slot_of, bits_at, link_of, cell_at, count_of, name_at, named, Link, Passed, Reached, Indexed, Sought}
use Rattle.index.proofs.LastLaws.{last_most, last_passes, last_none}

-- ---- the cells that a search comes to

pub cell_start : (index : List ℕ) (y : ℕ) → cell_at index y 0 ≡ 1 + slot_of y
unfolding cell_at
cell_start index y = refl

pub cell_next : (index : List ℕ) (y d : ℕ) → cell_at index y (suc d) ≡ link_of (get_or index (cell_at index y d) 0) (bits_at y d)
unfolding cell_at
cell_next index y d = refl

pub bits_start : (y : ℕ) → bits_at y 0 ≡ y / 2039
unfolding bits_at
bits_start y = refl

pub bits_next : (y d : ℕ) → bits_at y (suc d) ≡ bits_at y d / 2
unfolding bits_at
bits_next y d = refl

pub passed_less : {index : List ℕ} {y d : ℕ} → Passed index y (suc d) → Passed index y d
passed_less p = record { met = λ e l. p.met e (omega (arith, l)) }

pub passed_more : {index : List ℕ} {y d : ℕ} → Passed index y d → get_or index (cell_at index y d) 0 ≢ 0 → Passed index y (suc d)
passed_more {index} {y} {d} p n =
    record {
      met = λ e l. elim (ℕ_discrete e d) [
        | yes q ↦ subst (λ i. get_or index (cell_at index y i) 0 ≢ 0) (sym q) n
        | no q ↦ p.met e (omega (arith, l, q))
      ];
    }

-- the link of an entry that is there
pub link_there : {index : List ℕ} {k : ℕ} (bits : ℕ) → k ≢ 0 → k ≤ count_of index → Link index (link_of k bits)
link_there {index} {k} bits n l =
    record { low = omega arith; most = omega (arith, n, l); side = λ _. (omega arith, omega arith) }

-- ---- the search

-- after some turns it is at a cell that leads to k, with bits left; the entries that it met have other names
pub record Seeking (parts index : List ℕ) (y at bits k : ℕ) : Type 0 where
  pub depth : ℕ
  pub passed : Passed index y depth
  pub cell : at ≡ cell_at index y depth
  pub rest : bits ≡ bits_at y depth
  pub here : k ≡ get_or index at 0
  pub others : (e : ℕ) → e < depth → name_at parts index (get_or index (cell_at index y e) 0 - 1) ≢ y

module _ {parts index : List ℕ} (g : Indexed parts index) (y : ℕ) where
  -- they are links
  pub cell_link : (d : ℕ) → Passed index y d → Link index (cell_at index y d)
  cell_link zero p =
      subst
      (Link index)
      (sym (cell_start index y))
      (record { low = omega arith; most = omega arith; side = λ h. absurd (omega (arith, h)) })
  cell_link (suc d) p =
      subst
      (Link index)
      (sym (cell_next index y d))
      (link_there (bits_at y d) (p.met d (omega arith)) (g.leads (cell_at index y d) (cell_link d (passed_less p))))

  pub seek_start : {at bits k : ℕ} → at ≡ 1 + slot_of y → bits ≡ y / 2039 → k ≡ get_or index at 0 → Seeking parts index y at bits k
  seek_start a b h =
      record {
        depth = 0;
        passed = record { met = λ e l. absurd (omega arith) };
        cell = a ∙ sym (cell_start index y);
        rest = b ∙ sym (bits_start y);
        here = h;
        others = λ e l. absurd (omega arith);
      }

  module _ {at bits k : ℕ} (s : Seeking parts index y at bits k) where
    pub seek_link : Link index at
    seek_link = subst (Link index) (sym s.cell) (cell_link s.depth s.passed)

    pub seek_most : k ≤ count_of index
    seek_most = omega (arith, s.here, g.leads at seek_link)

    pub seek_low : at < 67584
    seek_low = omega (arith, seek_link.most, g.few)

    there : get_or index (cell_at index y s.depth) 0 ≡ k
    there = ap (λ c. get_or index c 0) (sym s.cell) ∙ sym s.here

    -- the name of the entry, as the code reads it
    name_read : k ≢ 0 → body_in parts (get_or index (2044 + 4 * k) 0) ≡ name_at parts index (k - 1)
    name_read n =
        let same : 2044 + 4 * k ≡ 2048 + 4 * (k - 1) = omega (arith, n) in ap (λ c. body_in parts (get_or index c 0)) same

    -- the way on is behind this cell
    pub seek_later : k ≢ 0 → at < 2044 + 4 * k
    seek_later n = omega (arith, s.here, g.later at seek_link (λ z. n (s.here ∙ z)))

    pub seek_next : k ≢ 0 → body_in parts (get_or index (2044 + 4 * k) 0) ≢ y → {at' bits' k' : ℕ} → at' ≡ link_of k bits →
        bits' ≡ bits / 2 → k' ≡ get_or index at' 0 → Seeking parts index y at' bits' k'
    seek_next n o a b h =
        record {
          depth = suc s.depth;
          passed = passed_more s.passed (λ z. n (sym there ∙ z));
          cell = a ∙ ap₂ link_of (sym there) s.rest ∙ sym (cell_next index y s.depth);
          rest = b ∙ ap (λ v. v / 2) s.rest ∙ sym (bits_next y s.depth);
          here = h;
          others = λ e l. elim (ℕ_discrete e s.depth) [
            | yes q ↦
                λ i.
                o
                (name_read n
                ∙ ap (λ v. name_at parts index (v - 1)) (sym there)
                ∙ ap (λ t. name_at parts index (get_or index (cell_at index y t) 0 - 1)) (sym q)
                ∙ i)
            | no q ↦ s.others e (omega (arith, l, q))
          ];
        }

    sought : named parts index y ≡ k → Sought parts index y at
    sought f =
        record {
          depth = s.depth;
          passed = s.passed;
          others = s.others;
          cell = s.cell;
          link = seek_link;
          found = record { is = sym s.here ∙ sym f; most = g.leads at seek_link };
        }

    abbrev own : ℕ → Bool
    own j = eqb (name_at parts index j) y

    -- an entry of this name: there is no other
    pub seek_here : k ≢ 0 → body_in parts (get_or index (2044 + 4 * k) 0) ≡ y → Sought parts index y at
    seek_here n i =
        let is : name_at parts index (k - 1) ≡ y = sym (name_read n) ∙ i in
        let some : named parts index y ≢ 0 =
        λ z. never (eq-eqb _ _ is) (last_none own (count_of index) z (k - 1) (omega (arith, n, seek_most))) in
        let same : name_at parts index (named parts index y - 1) ≡ y = eqb-true _ _ (last_passes own (count_of index) some) in
        let low : named parts index y ≤ count_of index = last_most own (count_of index) in
        let one : named parts index y - 1 ≡ k - 1 =
        g.once (named parts index y - 1) (k - 1) (omega (arith, some, low)) (omega (arith, n, seek_most)) (same ∙ sym is) in
        sought (omega (arith, one, n, some))

    -- no entry here: the search for the name of any entry goes on
    pub seek_none : k ≡ 0 → Sought parts index y at
    seek_none z = elim (ℕ_discrete (named parts index y) 0) [
      | yes q ↦ sought (q ∙ sym z)
      | no q ↦ absurd (lost q)
    ]
      where
        lost : named parts index y ≢ 0 → ⊥
        lost q =
            let same : name_at parts index (named parts index y - 1) ≡ y = eqb-true _ _ (last_passes own (count_of index) q) in
            let low : named parts index y ≤ count_of index = last_most own (count_of index) in
            let back : suc (named parts index y - 1) ≡ named parts index y = omega (arith, q) in
            meet
            (subst
            (λ v. Reached index v (named parts index y))
            same
            (subst
            (Reached index (name_at parts index (named parts index y - 1)))
            back
            (g.reached (named parts index y - 1) (omega (arith, q, low)))))
            q
            same
          where
            meet : Reached index y (named parts index y) → named parts index y ≢ 0 → name_at parts index (named parts index y - 1) ≡ y → ⊥
            meet r q same = elim (dec_lt r.depth s.depth) [
              | yes l ↦ s.others r.depth l (ap (λ v. name_at parts index (v - 1)) r.leads ∙ same)
              | no l ↦ elim (ℕ_discrete r.depth s.depth) [
                | yes e ↦ q (sym r.leads ∙ ap (λ d. get_or index (cell_at index y d) 0) e ∙ there ∙ z)
                | no e ↦ r.passed.met s.depth (omega (arith, l, e)) (there ∙ z)
              ]
            ]

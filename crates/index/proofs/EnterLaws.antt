-- An empty index, and one entry more.
use Prim.Native.Nat.{ℕ, zero, suc, ◌+◌, ◌*◌, ◌<◌, ◌≤◌}
use native.Mathlib.Omega.{arith}
use native.Mathlib.Decide.{ℕ_discrete, dec_lt}
use mathlib.Core.List.{◌++◌, List}
use mathlib.Core.Logic.{◌≢◌}
use mathlib.Core.Path.{◌≡◌, sym, ap, subst, ◌∙◌}
use lib.ListN.{length, get_or, set, length-set}
use lib.Seq.{get_or-set_same, get_or-set_other}
use lib.Dec.{eqb}
use borrow.Author.Tests.{eqb-false}
use Rattle.tables.specs.Tables.{body_in}
use Rattle.index.specs.Index.{size, count_of, name_at, owner_at, link_of, bits_at, cell_at, Link, Passed, Reached, Indexed, Sought, entered, Added, Cleared}
use Rattle.std.proofs.lemmas.List.{get_or-replicate, length-replicate}
use Rattle.std.proofs.Math.ListN.{get_or-append, replicate, drop, length-append, length-drop}
use Rattle.index.proofs.LastLaws.{last_none}
use Rattle.index.proofs.SeekLaws.{cell_start, cell_next, passed_less, cell_link}

-- ---- an empty index

pub cleared : (front index : List ℕ) → front ≡ replicate 2048 0 → length index ≡ size → Cleared 2048 (front ++ drop 2048 index)
cleared front index e h =
    let long : length front ≡ 2048 = ap length e ∙ length-replicate {A = ℕ} 2048 0 in
    record {
      long = length-append front (drop 2048 index) ∙ omega (arith, long, length-drop 2048 index, h);
      zeros = λ i l. get_or-append front (drop 2048 index) 0 i (omega (arith, l, long)) ∙ ap (λ f. get_or f i 0) e ∙ get_or-replicate {A = ℕ} 2048 i 0 0 l;
    }

pub cleared_indexed : (parts : List ℕ) {index : List ℕ} → Cleared 2048 index → Indexed parts index
cleared_indexed parts {index} c =
    let none : count_of index ≡ 0 = c.zeros 0 (omega arith) in
    let off : (a : ℕ) → Link index a → get_or index a 0 ≡ 0 = λ a h. c.zeros a (omega (arith, none, h.most)) in
    record {
      long = c.long;
      few = omega (arith, none);
      owners = λ j h. absurd (omega (arith, none));
      leads = λ a h. omega (arith, off a h);
      later = λ a h n. absurd (n (off a h));
      only = λ a b h _ _ n. absurd (n (off a h));
      once = λ i j h. absurd (omega (arith, none));
      reached = λ j h. absurd (omega (arith, none));
    }

-- ---- one entry more: the cells

module _ {index : List ℕ} (at part owner : ℕ) (long : length index ≡ size) (room : count_of index < 16384) (link : Link index at) where
  abbrev count : ℕ
  count = count_of index

  abbrev with_link : List ℕ
  with_link = set index at (count + 1)

  abbrev with_part : List ℕ
  with_part = set with_link (2048 + 4 * count) part

  abbrev with_one : List ℕ
  with_one = set with_part (2048 + 4 * count + 1) 0

  abbrev with_both : List ℕ
  with_both = set with_one (2048 + 4 * count + 2) 0

  abbrev with_owner : List ℕ
  with_owner = set with_both (2048 + 4 * count + 3) owner

  abbrev with_all : List ℕ
  with_all = entered at part owner index

  keep_count : (c : ℕ) → c ≢ 0 → get_or with_all c 0 ≡ get_or with_owner c 0
  unfolding entered
  keep_count c o = get_or-set_other with_owner 0 c (count + 1) 0 o

  keep_owner : (c : ℕ) → c ≢ 2048 + 4 * count + 3 → get_or with_owner c 0 ≡ get_or with_both c 0
  keep_owner c o = get_or-set_other with_both (2048 + 4 * count + 3) c owner 0 o

  keep_both : (c : ℕ) → c ≢ 2048 + 4 * count + 2 → get_or with_both c 0 ≡ get_or with_one c 0
  keep_both c o = get_or-set_other with_one (2048 + 4 * count + 2) c 0 0 o

  keep_one : (c : ℕ) → c ≢ 2048 + 4 * count + 1 → get_or with_one c 0 ≡ get_or with_part c 0
  keep_one c o = get_or-set_other with_part (2048 + 4 * count + 1) c 0 0 o

  keep_part_lem : (c : ℕ) → c ≢ 2048 + 4 * count → get_or with_part c 0 ≡ get_or with_link c 0
  keep_part_lem c o = get_or-set_other with_link (2048 + 4 * count) c part 0 o

  -- a cell of the entries before
  below : (c : ℕ) → 0 < c → c < 2048 + 4 * count → get_or with_all c 0 ≡ get_or with_link c 0
  below c a b =
      keep_count c (λ e. omega (arith, e))
      ∙ keep_owner c (λ e. omega (arith, e))
      ∙ keep_both c (λ e. omega (arith, e))
      ∙ keep_one c (λ e. omega (arith, e))
      ∙ keep_part_lem c (λ e. omega (arith, e))

  pub cell_kept : (c : ℕ) → 0 < c → c < 2048 + 4 * count → c ≢ at → get_or with_all c 0 ≡ get_or index c 0
  cell_kept c a b o = below c a b ∙ get_or-set_other index at c (count + 1) 0 o

  pub link_set : get_or with_all at 0 ≡ count + 1
  link_set = below at link.low link.most ∙ get_or-set_same index at (count + 1) 0 (omega (arith, link.most))

  pub entered_long : length with_all ≡ size
  unfolding entered
  entered_long = simp length-set long

  pub count_set : count_of with_all ≡ count + 1
  unfolding entered
  count_set = get_or-set_same with_owner 0 (count + 1) 0 (simp length-set (omega arith))

  pub part_set : get_or with_all (2048 + 4 * count) 0 ≡ part
  part_set =
      keep_count (2048 + 4 * count) (λ e. omega (arith, e))
      ∙ keep_owner (2048 + 4 * count) (λ e. omega (arith, e))
      ∙ keep_both (2048 + 4 * count) (λ e. omega (arith, e))
      ∙ keep_one (2048 + 4 * count) (λ e. omega (arith, e))
      ∙ get_or-set_same with_link (2048 + 4 * count) part 0 (simp length-set (omega arith))

  one_set : get_or with_all (2048 + 4 * count + 1) 0 ≡ 0
  one_set =
      keep_count (2048 + 4 * count + 1) (λ e. omega (arith, e))
      ∙ keep_owner (2048 + 4 * count + 1) (λ e. omega (arith, e))
      ∙ keep_both (2048 + 4 * count + 1) (λ e. omega (arith, e))
      ∙ get_or-set_same with_part (2048 + 4 * count + 1) 0 0 (simp length-set (omega arith))

  both_set : get_or with_all (2048 + 4 * count + 2) 0 ≡ 0
  both_set =
      keep_count (2048 + 4 * count + 2) (λ e. omega (arith, e))
      ∙ keep_owner (2048 + 4 * count + 2) (λ e. omega (arith, e))
      ∙ get_or-set_same with_one (2048 + 4 * count + 2) 0 0 (simp length-set (omega arith))

  pub owner_set : get_or with_all (2048 + 4 * count + 3) 0 ≡ owner
  owner_set =
      keep_count (2048 + 4 * count + 3) (λ e. omega (arith, e))
      ∙ get_or-set_same with_both (2048 + 4 * count + 3) owner 0 (simp length-set (omega arith))

  -- a link afterwards: the one that was set, a link of the new entry, or one that was there
  data Kind (c : ℕ) : Type 0 where
    this : c ≡ at → Kind c
    new : get_or with_all c 0 ≡ 0 → Kind c
    old : Link index c → get_or with_all c 0 ≡ get_or index c 0 → Kind c

  link_kind : (c : ℕ) → Link with_all c → Kind c
  link_kind c l = elim (ℕ_discrete c at) [
    | yes q ↦ this q
    | no q ↦ elim (dec_lt c (2048 + 4 * count)) [
      | yes b ↦ old (record { low = l.low; most = b; side = l.side }) (cell_kept c l.low b q)
      | no b ↦ elim (ℕ_discrete c (2048 + 4 * count + 1)) [
        | yes e ↦ new (ap (λ i. get_or with_all i 0) e ∙ one_set)
        | no o ↦
            let s = l.side (omega (arith, b)) in
            let e : c ≡ 2048 + 4 * count + 2 = omega (arith, b, o, s, l.most, count_set) in
            new (ap (λ i. get_or with_all i 0) e ∙ both_set)
      ]
    ]
  ]

-- ---- one entry more: the index

module _ {parts index : List ℕ} (part : ℕ) {owner at : ℕ} (g : Indexed parts index) (s : Sought parts index (body_in parts part) at)
    (free : get_or index at 0 ≡ 0) (m : owner < 256) (room : count_of index < 16384) where
  abbrev z : ℕ
  z = body_in parts part

  abbrev n : ℕ
  n = count_of index

  abbrev after : List ℕ
  after = entered at part owner index

  count_is : count_of after ≡ n + 1
  count_is = count_set at part owner g.long room s.link

  kept : (c : ℕ) → 0 < c → c < 2048 + 4 * n → c ≢ at → get_or after c 0 ≡ get_or index c 0
  kept = cell_kept at part owner g.long room s.link

  set_is : get_or after at 0 ≡ n + 1
  set_is = link_set at part owner g.long room s.link

  -- parts and modules are no links
  part_kept : (j : ℕ) → j < n → get_or after (2048 + 4 * j) 0 ≡ get_or index (2048 + 4 * j) 0
  part_kept j l =
      kept
      (2048 + 4 * j)
      (omega arith)
      (omega (arith, l))
      (λ e. let t = s.link.side (omega (arith, e)) in omega (arith, e, t))

  owner_kept : (j : ℕ) → j < n → owner_at after j ≡ owner_at index j
  owner_kept j l =
      kept
      (2048 + 4 * j + 3)
      (omega arith)
      (omega (arith, l))
      (λ e. let t = s.link.side (omega (arith, e)) in omega (arith, e, t))

  name_kept : (j : ℕ) → j < n → name_at parts after j ≡ name_at parts index j
  name_kept j l = ap (body_in parts) (part_kept j l)

  name_new : name_at parts after n ≡ z
  name_new = ap (body_in parts) (part_set at part owner g.long room s.link)

  owner_new : owner_at after n ≡ owner
  owner_new = owner_set at part owner g.long room s.link

  -- the name was not there
  name_free : (j : ℕ) → j < n → name_at parts index j ≢ z
  name_free j l =
      eqb-false _ _ (last_none (λ k. eqb (name_at parts index k) z) n (sym s.found.is ∙ free) j l)

  -- a search that met an entry in each turn goes as before
  meets : (y d : ℕ) → Passed index y d → cell_at after y d ≡ cell_at index y d → get_or index (cell_at index y d) 0 ≢ 0 →
      get_or after (cell_at after y d) 0 ≡ get_or index (cell_at index y d) 0
  meets y d q same o =
      let l : Link index (cell_at index y d) = cell_link g y d q in
      ap (λ c. get_or after c 0) same ∙ kept (cell_at index y d) l.low l.most (λ e. o (ap (λ c. get_or index c 0) e ∙ free))

  way_kept : (y d : ℕ) → Passed index y d → cell_at after y d ≡ cell_at index y d
  way_kept y zero q = cell_start after y ∙ sym (cell_start index y)
  way_kept y (suc d) q =
      cell_next after y d
      ∙ ap (λ k. link_of k (bits_at y d)) (meets y d (passed_less q) (way_kept y d (passed_less q)) (q.met d (omega arith)))
      ∙ sym (cell_next index y d)

  met_kept : (y d : ℕ) → Passed index y d → get_or index (cell_at index y d) 0 ≢ 0 →
      get_or after (cell_at after y d) 0 ≡ get_or index (cell_at index y d) 0
  met_kept y d q o = meets y d q (way_kept y d q) o

  passed_kept : (y d : ℕ) → Passed index y d → Passed after y d
  passed_kept y d q =
      record {
        met =
            λ e l z.
            let before : Passed index y e = record { met = λ i b. q.met i (omega (arith, b, l)) } in
            q.met e l (sym (met_kept y e before (q.met e l)) ∙ z);
      }

  reached_kept : {y k : ℕ} → k ≢ 0 → Reached index y k → Reached after y k
  reached_kept {y} {k} o r =
      record {
        depth = r.depth;
        passed = passed_kept y r.depth r.passed;
        leads = met_kept y r.depth r.passed (λ e. o (sym r.leads ∙ e)) ∙ r.leads;
      }

  reached_new : Reached after z (suc n)
  reached_new =
      let more : n + 1 ≡ suc n = omega arith in
      record {
        depth = s.depth;
        passed = passed_kept z s.depth s.passed;
        leads = ap (λ c. get_or after c 0) (way_kept z s.depth s.passed ∙ sym s.cell) ∙ set_is ∙ more;
      }

  kind : (c : ℕ) → Link after c → Kind at part owner g.long room s.link c
  kind = link_kind at part owner g.long room s.link

  leads_after : (c : ℕ) → Link after c → get_or after c 0 ≤ count_of after
  leads_after c l = elim (kind c l) [
    | this q ↦ omega (arith, ap (λ i. get_or after i 0) q, set_is, count_is)
    | new e ↦ omega (arith, e)
    | old h e ↦ omega (arith, e, g.leads c h, count_is)
  ]

  later_after : (c : ℕ) → Link after c → get_or after c 0 ≢ 0 → c < 2044 + 4 * get_or after c 0
  later_after c l o = elim (kind c l) [
    | this q ↦ omega (arith, q, ap (λ i. get_or after i 0) q, set_is, s.link.most)
    | new e ↦ absurd (o e)
    | old h e ↦ omega (arith, e, g.later c h (λ z. o (e ∙ z)))
  ]

  only_after : (a b : ℕ) → Link after a → Link after b → get_or after a 0 ≡ get_or after b 0 → get_or after a 0 ≢ 0 → a ≡ b
  only_after a b l r same o = elim (kind a l) [
    | new e ↦ absurd (o e)
    | this q ↦ elim (kind b r) [
      | new e ↦ absurd (o (same ∙ e))
      | this t ↦ q ∙ sym t
      | old h e ↦ absurd (omega (arith, ap (λ i. get_or after i 0) q, set_is, same, e, g.leads b h))
    ]
    | old h e ↦ elim (kind b r) [
      | new t ↦ absurd (o (same ∙ t))
      | this t ↦ absurd (omega (arith, ap (λ i. get_or after i 0) t, set_is, same, e, g.leads a h))
      | old i f ↦ g.only a b h i (sym e ∙ same ∙ f) (λ z. o (e ∙ z))
    ]
  ]

  once_after : (i j : ℕ) → i < count_of after → j < count_of after → name_at parts after i ≡ name_at parts after j → i ≡ j
  once_after i j a b same = elim (ℕ_discrete i n) [
    | yes q ↦ elim (ℕ_discrete j n) [
      | yes t ↦ q ∙ sym t
      | no t ↦
          let l : j < n = omega (arith, b, count_is, t) in
          absurd (name_free j l (sym (name_kept j l) ∙ sym same ∙ ap (name_at parts after) q ∙ name_new))
    ]
    | no q ↦
        let l : i < n = omega (arith, a, count_is, q) in
        elim (ℕ_discrete j n) [
          | yes t ↦ absurd (name_free i l (sym (name_kept i l) ∙ same ∙ ap (name_at parts after) t ∙ name_new))
          | no t ↦
              let r : j < n = omega (arith, b, count_is, t) in g.once i j l r (sym (name_kept i l) ∙ same ∙ name_kept j r)
        ]
  ]

  pub entry_added : Added parts part owner index after
  entry_added =
      record {
        indexed = record {
          long = entered_long at part owner g.long room s.link;
          few = omega (arith, count_is, room);
          owners = λ j h. elim (ℕ_discrete j n) [
            | yes q ↦ subst (λ i. owner_at after i < 256) (sym q) (omega (arith, owner_new, m))
            | no q ↦ let l : j < n = omega (arith, h, count_is, q) in omega (arith, owner_kept j l, g.owners j l)
          ];
          leads = leads_after;
          later = later_after;
          only = only_after;
          once = once_after;
          reached = λ j h. elim (ℕ_discrete j n) [
            | yes q ↦
                subst (λ i. Reached after (name_at parts after i) (suc i)) (sym q) (subst (λ y. Reached after y (suc n)) (sym name_new) reached_new)
            | no q ↦
                let l : j < n = omega (arith, h, count_is, q) in
                subst (λ y. Reached after y (suc j)) (sym (name_kept j l)) (reached_kept (λ e. omega (arith, e)) (g.reached j l))
          ];
        };
        count = count_is;
        names = name_kept;
        owners = owner_kept;
        name = name_new;
        owned = owner_new;
      }

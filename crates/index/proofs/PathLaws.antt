-- No search is long, whatever the names are: two names of one slot differ in a bit of the quotient, where their ways part.
use Prim.Native.Nat.{ℕ, zero, suc, ◌+◌, ◌-◌, ◌*◌, ◌/◌, ◌%◌, ◌^◌, ◌<◌, ◌≤◌}
use native.Mathlib.Nat.{pow-suc}
use native.Mathlib.Omega.{arith}
use native.Mathlib.Decide.{ℕ_discrete, dec_lt}
use mathlib.Core.Bool.{true}
use mathlib.Core.List.{List}
use mathlib.Core.Logic.{◌≢◌}
use mathlib.Core.Path.{◌≡◌, sym, ap, ◌∙◌}
use lib.ListN.{get_or}
use Rattle.rules.specs.Text.{is_packed}
use Rattle.rules.proofs.NameLaws.{packed}
use Rattle.index.specs.Index.{slot_of, bits_at, link_of, cell_at, count_of, name_at, Link, Passed, Reached, Indexed, Sought}
use Rattle.index.proofs.SeekLaws.{cell_start, cell_next, bits_start, bits_next, passed_less, cell_link}

-- ---- the bits of a name

-- after d turns d bits are gone
bits_below : (y b d : ℕ) → y / 2039 < 2 ^ (d + b) → bits_at y d < 2 ^ b
bits_below y b zero h = let all : 0 + b ≡ b = omega arith in omega (arith, h, bits_start y, ap (λ i. 2 ^ i) all)
bits_below y b (suc d) h =
    let more : suc d + b ≡ d + suc b = omega arith in
    let low : bits_at y d < 2 ^ suc b = bits_below y (suc b) d (omega (arith, h, ap (λ i. 2 ^ i) more)) in
    omega (arith, low, bits_next y d, pow-suc 2 b)

-- quotients that agree in their first d bits and behind them
bits_alike : (y z d : ℕ) → bits_at y d ≡ bits_at z d → ((i : ℕ) → i < d → bits_at y i % 2 ≡ bits_at z i % 2) → y / 2039 ≡ z / 2039
bits_alike y z zero h f = sym (bits_start y) ∙ h ∙ bits_start z
bits_alike y z (suc d) h f =
    bits_alike
    y
    z
    d
    (omega (arith, h, bits_next y d, bits_next z d, f d (omega arith)))
    (λ i l. f i (omega (arith, l)))

-- ---- two searches at one cell have made as many turns, from one slot, by the same bits

record Together (y z d e : ℕ) : Type 0 where
  turns : d ≡ e
  slot : slot_of y ≡ slot_of z
  bits : (i : ℕ) → i < d → bits_at y i % 2 ≡ bits_at z i % 2

-- every entry's name is below m
abbrev pub NamesBelow : List ℕ → List ℕ → ℕ → Type 0
NamesBelow parts index m = (j : ℕ) → j < count_of index → name_at parts index j < m

module _ {parts index : List ℕ} (g : Indexed parts index) where
  together : (y z d e : ℕ) → Passed index y d → Passed index z e → cell_at index y d ≡ cell_at index z e → Together y z d e
  together y z zero zero p q h =
      record {
        turns = omega arith;
        slot = omega (arith, h, cell_start index y, cell_start index z);
        bits = λ i l. absurd (omega arith);
      }
  together y z zero (suc e) p q h = absurd (omega (arith, h, cell_start index y, cell_next index z e, q.met e (omega arith)))
  together y z (suc d) zero p q h = absurd (omega (arith, h, cell_start index z, cell_next index y d, p.met d (omega arith)))
  together y z (suc d) (suc e) p q h =
      let same : link_of (get_or index (cell_at index y d) 0) (bits_at y d) ≡ link_of (get_or index (cell_at index z e) 0) (bits_at z e) =
      sym (cell_next index y d) ∙ h ∙ cell_next index z e in
      let bit : bits_at y d % 2 ≡ bits_at z e % 2 = omega (arith, same) in
      let before : Together y z d e =
      together
      y
      z
      d
      e
      (passed_less p)
      (passed_less q)
      (g.only (cell_at index y d) (cell_at index z e) (cell_link g y d (passed_less p)) (cell_link g z e (passed_less q)) (omega (arith, same)) (p.met d (omega arith))) in
      record {
        turns = ap suc before.turns;
        slot = before.slot;
        bits = λ i l. elim (ℕ_discrete i d) [
          | yes s ↦ ap (λ k. bits_at y k % 2) s ∙ bit ∙ ap (λ k. bits_at z k % 2) (sym (s ∙ before.turns))
          | no s ↦ before.bits i (omega (arith, l, s))
        ];
      }

  -- in an index of names whose quotients have b bits, an entry that is met after b turns is the name's own
  own_met : (b y : ℕ) → NamesBelow parts index (2039 * 2 ^ b) → y < 2039 * 2 ^ b → Passed index y b →
      get_or index (cell_at index y b) 0 ≢ 0 → name_at parts index (get_or index (cell_at index y b) 0 - 1) ≡ y
  own_met b y names small p n =
      let link : Link index (cell_at index y b) = cell_link g y b p in
      let low : j < count_of index = omega (arith, n, g.leads (cell_at index y b) link) in
      let r : Reached index x (suc j) = g.reached j low in
      let back : get_or index (cell_at index y b) 0 ≡ suc j = omega (arith, n) in
      let t : Together y x b r.depth =
      together
      y
      x
      b
      r.depth
      p
      r.passed
      (g.only (cell_at index y b) (cell_at index x r.depth) link (cell_link g x r.depth r.passed) (back ∙ sym r.leads) n) in
      let whole : b + 0 ≡ b = omega arith in
      let none : bits_at y b ≡ bits_at x b =
      omega (
        arith,
        bits_below y 0 b (omega (arith, small, ap (λ i. 2 ^ i) whole)),
        bits_below x 0 b (omega (arith, names j low, ap (λ i. 2 ^ i) whole)),
      ) in
      omega (arith, bits_alike y x b none t.bits, t.slot)
    where
      j : ℕ
      j = get_or index (cell_at index y b) 0 - 1

      x : ℕ
      x = name_at parts index j

  -- so a search makes at most b turns, and meets at most one entry more
  pub search_short : (b : ℕ) → NamesBelow parts index (2039 * 2 ^ b) → {y at : ℕ} → y < 2039 * 2 ^ b → (s : Sought parts index y at) → s.depth ≤ b
  search_short b names {y} small s = elim (dec_lt b s.depth) [
    | no l ↦ omega (arith, l)
    | yes l ↦
        let p : Passed index y b = record { met = λ e h. s.passed.met e (omega (arith, h, l)) } in
        absurd (s.others b l (own_met b y names small p (s.passed.met b l)))
  ]

  -- legal names have 48 bits, and so quotients of 38: a search for one, among such, meets at most 39 entries
  pub short_legal : ((j : ℕ) → j < count_of index → is_packed (name_at parts index j) ≡ true) → {y at : ℕ} → is_packed y ≡ true →
      (s : Sought parts index y at) → s.depth ≤ 38
  short_legal names {y} legal s =
      search_short 38 (λ j l. omega (arith, (packed (name_at parts index j) (names j l)).below)) (omega (arith, (packed y legal).below)) s

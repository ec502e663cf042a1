-- The fields of a text by what it is joined from: a space parts the fields in front of it from those behind it.
-- Assumes nothing.
use Prim.Native.Nat.{ℕ, suc, ◌+◌, ◌≤◌, ◌<◌}
use native.Mathlib.Nat.{add-zero}
use native.Mathlib.Omega.{arith}
use mathlib.Core.Bool.{Bool, true, false, cond}
use mathlib.Core.List.{List, [], ◌∷◌, ◌++◌, map, map-append, append-nil, append_assoc}
use mathlib.Core.Path.{◌≡◌, refl, sym, ap, ap₂, subst, ◌∙◌}
use lib.ListN.{length, get_or, length-append}
use lib.Dec.{eqb}
use borrow.Author.Tests.{not-true, eq-eqb, ne_eqb, eqb-true}
use Rattle.rules.specs.Text.{space, all, between, is_legal, Field, starts_field, widen_field, add_to_fields, fields_from, is_octal, is_number, is_letter, is_digit, is_name_character, is_name, is_name_over}
use Rattle.rules.proofs.BoolLaws.{never, or_cases}
use Rattle.rules.proofs.TestLaws.{every_add, and_left, and_right, between_intro, between_low, between_wider, all_first, all_rest, all_weaken}
use Rattle.text.specs.Scan.{part}
use Rattle.text.specs.FieldBounds.{is_space}
use Rattle.text.proofs.FieldLaws.{field}
use Rattle.text.proofs.ScanLaws.{part_cons, length_part, all_part}
use Rattle.runs.specs.Runs.{Stands, Stretch, Gap, IsField, texts_from, Spelled, Follow, ByteFollows, NumberFollows, Numbers}
use Rattle.runs.proofs.StretchLaws.{part_split, part_one, all_joined, all_one, stretch_start, stretch_step}

-- a byte that is legal and no space
abbrev is_plain : ℕ → Bool
is_plain b = between 33 126 b

no_space : (b : ℕ) → is_plain b ≡ true → eqb b space ≡ false
no_space b h = ne_eqb b space (λ e. omega (arith, between_low 33 126 b h))

-- ---- the fields of a text

-- a byte in front of fields, with others behind them or not
add_append :
    (c b : ℕ) (more : Bool) (fs gs : List Field) → (more ≡ true → 1 ≤ length fs)
    → add_to_fields c b more (fs ++ gs) ≡ add_to_fields c b more fs ++ gs
unfolding add_to_fields widen_field
add_append c b more fs gs h = go (eqb b space) more fs h
  where
    go :
        (t u : Bool) (fs : List Field) → (u ≡ true → 1 ≤ length fs)
        → cond t (fs ++ gs) (cond u (widen_field c b (fs ++ gs)) (field c (b ∷ []) ∷ fs ++ gs))
        ≡ cond t fs (cond u (widen_field c b fs) (field c (b ∷ []) ∷ fs)) ++ gs
    go true u fs h = refl
    go false false fs h = refl
    go false true [] h = absurd (omega (arith, h refl))
    go false true (f ∷ fs) h = refl

starts_some : (c : ℕ) (t : List ℕ) → starts_field t ≡ true → 1 ≤ length (fields_from c t)
unfolding starts_field fields_from add_to_fields widen_field
starts_some c [] h = never h refl
starts_some c (b ∷ rest) h = rw (not-true (eqb b space) h) (go (starts_field rest) (fields_from (c + 1) rest))
  where
    go : (u : Bool) (fs : List Field) → 1 ≤ length (cond u (widen_field c b fs) (field c (b ∷ []) ∷ fs))
    go true [] = omega arith
    go true (f ∷ fs) = omega arith
    go false fs = omega arith

starts_same : (t u : List ℕ) → starts_field (t ++ space ∷ u) ≡ starts_field t
unfolding starts_field
starts_same [] u = refl
starts_same (b ∷ t) u = refl

fields_cons : (c b : ℕ) (rest : List ℕ) → fields_from c (b ∷ rest) ≡ add_to_fields c b (starts_field rest) (fields_from (c + 1) rest)
unfolding fields_from
fields_cons c b rest = refl

fields_parted : (c : ℕ) (t u : List ℕ) → fields_from c (t ++ space ∷ u) ≡ fields_from c t ++ fields_from (c + length t) (space ∷ u)
fields_parted c [] u = unfold fields_from in ap (λ (n : ℕ). fields_from n (space ∷ u)) (sym (add-zero c))
fields_parted c (b ∷ t) u =
    let k : c + 1 + length t ≡ c + suc (length t) = omega arith in
    fields_cons c b (t ++ space ∷ u)
    ∙ ap₂ (add_to_fields c b) (starts_same t u) (fields_parted (c + 1) t u)
    ∙ add_append c b (starts_field t) (fields_from (c + 1) t) (fields_from (c + 1 + length t) (space ∷ u)) (starts_some (c + 1) t)
    ∙ ap₂ ◌++◌ (sym (fields_cons c b t)) (ap (λ (n : ℕ). fields_from n (space ∷ u)) k)

-- ---- their texts

texts_parted : (c : ℕ) (t u : List ℕ) → texts_from c (t ++ space ∷ u) ≡ texts_from c t ++ texts_from (c + length t) (space ∷ u)
unfolding texts_from
texts_parted c t u = ap (map (λ (f : Field). f.text)) (fields_parted c t u) ∙ map-append (λ (f : Field). f.text) (fields_from c t) (fields_from (c + length t) (space ∷ u))

-- spaces in front only move the columns
texts_gap : (c : ℕ) (gap t : List ℕ) → all is_space gap ≡ true → texts_from c (gap ++ t) ≡ texts_from (c + length gap) t
unfolding texts_from fields_from add_to_fields
texts_gap c [] t h = ap (λ (n : ℕ). texts_from n t) (sym (add-zero c))
texts_gap c (b ∷ gap) t h =
    let k : c + 1 + length gap ≡ c + suc (length gap) = omega arith in
    rw (all_first is_space b gap h) (texts_gap (c + 1) gap t (all_rest is_space b gap h) ∙ ap (λ (n : ℕ). texts_from n t) k)

-- plain bytes are one field
fields_plain : (c b : ℕ) (rest : List ℕ) → all is_plain (b ∷ rest) ≡ true → fields_from c (b ∷ rest) ≡ field c (b ∷ rest) ∷ []
unfolding add_to_fields starts_field widen_field
fields_plain c b [] h = unfold fields_from in rw (no_space b (all_first is_plain b [] h))
fields_plain c b (x ∷ xs) h =
    let rest = all_rest is_plain b (x ∷ xs) h in
    fields_cons c b (x ∷ xs)
    ∙ ap (add_to_fields c b (starts_field (x ∷ xs))) (fields_plain (c + 1) x xs rest)
    ∙ rw (no_space b (all_first is_plain b (x ∷ xs) h), no_space x (all_first is_plain x xs rest))

texts_plain : (c : ℕ) (t : List ℕ) → 1 ≤ length t → all is_plain t ≡ true → texts_from c t ≡ t ∷ []
unfolding texts_from
texts_plain c [] n h = absurd (omega arith)
texts_plain c (b ∷ rest) n h = ap (map (λ (f : Field). f.text)) (fields_plain c b rest h)

-- ---- one field

octal_plain : (b : ℕ) → is_octal b ≡ true → is_plain b ≡ true
octal_plain b h = between_wider 48 55 33 126 b (omega arith) (omega arith) h

character_plain : (b : ℕ) → is_name_character b ≡ true → is_plain b ≡ true
unfolding is_name_character
character_plain b h =
    or_cases (is_letter b) _ h (between_wider 65 90 33 126 b (omega arith) (omega arith))
    (λ h. or_cases (is_digit b) _ h (between_wider 48 57 33 126 b (omega arith) (omega arith))
    (λ h. or_cases (eqb b 36) _ h (λ e. ap is_plain (eqb-true b 36 e)) (λ e. ap is_plain (eqb-true b 46 e))))

plain_legal : (b : ℕ) → is_plain b ≡ true → is_legal b ≡ true
plain_legal b h = between_wider 33 126 32 126 b (omega arith) (omega arith) h

space_legal : (b : ℕ) → is_space b ≡ true → is_legal b ≡ true
space_legal b e = ap is_legal (eqb-true b space e)

pub plain_spelled : (i r : ℕ) (l : List ℕ) → i < r → r ≤ length l → all is_plain (part i r l) ≡ true → Spelled l i r (part i r l ∷ [])
plain_spelled i r l h g p =
    record {
      from = omega arith;
      to = g;
      fields = λ c. texts_plain c (part i r l) (omega (arith, length_part i r l g)) p;
      legal = all_weaken is_plain is_legal plain_legal (part i r l) p;
    }

module _ {i r : ℕ} {l : List ℕ} where
  pub number_spelled : IsField is_number l i r → Spelled l i r (part i r l ∷ [])
  unfolding is_number
  number_spelled n =
      plain_spelled i r l n.some n.to
      (all_weaken is_octal is_plain octal_plain (part i r l) (and_left (all is_octal (part i r l)) _ (and_right (between 1 6 (length (part i r l))) _ n.is)))

  pub name_spelled : IsField is_name l i r → Spelled l i r (part i r l ∷ [])
  unfolding is_name_over
  name_spelled n =
      plain_spelled i r l n.some n.to
      (all_weaken is_name_character is_plain character_plain (part i r l)
      (and_right (is_letter (get_or (part i r l) 0 0)) _ (and_right (between 1 6 (length (part i r l))) _ n.is)))

pub byte_spelled : (i b : ℕ) (l : List ℕ) → Stands l i b → is_plain b ≡ true → Spelled l i (i + 1) ((b ∷ []) ∷ [])
byte_spelled i b l s p =
    let is : part i (i + 1) l ≡ b ∷ [] = part_one i l s.inside ∙ ap (λ (x : ℕ). x ∷ []) s.is in
    subst (λ (t : List ℕ). Spelled l i (i + 1) (t ∷ [])) is
    (plain_spelled i (i + 1) l (omega arith) (omega (arith, s.inside)) (all_one is_plain i l s.inside (ap is_plain s.is ∙ p)))

-- ---- fields behind spaces

module _ {i s r : ℕ} {l : List ℕ} {ts : List (List ℕ)} (gap : Stretch is_space l i s) (f : Spelled l s r ts) where
  texts_here : (c : ℕ) → texts_from c (part i r l) ≡ ts
  texts_here c =
      ap (texts_from c) (part_split i s r l gap.from f.from)
      ∙ texts_gap c (part i s l) (part s r l) gap.are
      ∙ f.fields (c + length (part i s l))

  legal_here : all is_legal (part i r l) ≡ true
  legal_here = all_joined is_legal i s r l gap.from f.from (all_weaken is_space is_legal space_legal (part i s l) gap.are) f.legal

  pub gap_spelled : Spelled l i r ts
  gap_spelled = record { from = omega (arith, gap.from, f.from); to = f.to; fields = texts_here; legal = legal_here }

  module _ (some : i < s) where
    starts_space : part i r l ≡ space ∷ part (i + 1) r l
    starts_space =
        part_cons i r l (omega (arith, f.from)) f.to
        ∙ ap (λ (b : ℕ). b ∷ part (i + 1) r l) (eqb-true _ space (all_part is_space i s i l gap.are (omega arith) some gap.to))

    spaced_by : Follow l i r ts
    spaced_by =
        record {
          from = omega (arith, f.from);
          to = f.to;
          adds =
              λ at front h.
              record {
                from = omega (arith, h.from, f.from);
                to = f.to;
                fields =
                    λ c.
                    ap (texts_from c) (part_split at i r l h.from (omega (arith, f.from)) ∙ ap (◌++◌ (part at i l)) starts_space)
                    ∙ texts_parted c (part at i l) (part (i + 1) r l)
                    ∙ ap₂ ◌++◌ (h.fields c) (ap (texts_from (c + length (part at i l))) (sym starts_space) ∙ texts_here (c + length (part at i l)));
                legal = all_joined is_legal at i r l h.from (omega (arith, f.from)) h.legal legal_here;
              };
        }

pub spaced : {i s r : ℕ} {l : List ℕ} {ts : List (List ℕ)} → Gap l i s → Spelled l s r ts → Follow l i r ts
spaced gap f = spaced_by gap.spaces f gap.some

-- ---- spaces behind fields

-- spaces alone are no field
texts_spaces : (c : ℕ) (gap : List ℕ) → all is_space gap ≡ true → texts_from c gap ≡ []
unfolding texts_from fields_from
texts_spaces c gap h = ap (texts_from c) (sym (append-nil gap)) ∙ texts_gap c gap [] h

texts_trailed : (c : ℕ) (t gap : List ℕ) → all is_space gap ≡ true → texts_from c (t ++ gap) ≡ texts_from c t
texts_trailed c t [] h = ap (texts_from c) (append-nil t)
texts_trailed c t (b ∷ gap) h =
    ap (λ (x : ℕ). texts_from c (t ++ x ∷ gap)) (eqb-true b space (all_first is_space b gap h))
    ∙ texts_parted c t gap
    ∙ ap (◌++◌ (texts_from c t)) (ap (λ (x : ℕ). texts_from (c + length t) (x ∷ gap)) (sym (eqb-true b space (all_first is_space b gap h))) ∙ texts_spaces (c + length t) (b ∷ gap) h)
    ∙ append-nil (texts_from c t)

pub trailed : {at e s : ℕ} {l : List ℕ} {ts : List (List ℕ)} → Spelled l at e ts → Stretch is_space l e s → Spelled l at s ts
trailed {at} {e} {s} {l} f gap =
    record {
      from = omega (arith, f.from, gap.from);
      to = gap.to;
      fields = λ c. ap (texts_from c) (part_split at e s l f.from gap.from) ∙ texts_trailed c (part at e l) (part e s l) gap.are ∙ f.fields c;
      legal = all_joined is_legal at e s l f.from gap.from f.legal (all_weaken is_space is_legal space_legal (part e s l) gap.are);
    }

-- a field of one byte behind spaces
pub byte_found :
    {i s low high : ℕ} {l : List ℕ} → Gap l i s → s < length l → (33 ≤ low) × (high ≤ 126) → low ≤ get_or l s 0 → get_or l s 0 ≤ high
    → ByteFollows l i (s + 1) low high
byte_found {i} {s} {low} {high} {l} gap inside h least most =
    record {
      byte = get_or l s 0;
      least = least;
      most = most;
      follow =
          spaced gap
          (byte_spelled s (get_or l s 0) l (record { inside = inside; is = refl }) (between_intro 33 126 (get_or l s 0) (omega arith) (omega arith)));
    }

-- where it can be one byte only
pub that_byte : {i r c : ℕ} {l : List ℕ} → ByteFollows l i r c c → Follow l i r ((c ∷ []) ∷ [])
that_byte {i} {r} {c} {l} b =
    let is : b.byte ≡ c = omega (arith, b.least, b.most) in
    subst (λ (x : ℕ). Follow l i r ((x ∷ []) ∷ [])) is b.follow

pub follow_on : {i m r : ℕ} {l : List ℕ} {ts us : List (List ℕ)} → Follow l i m ts → Follow l m r us → Follow l i r (ts ++ us)
follow_on {i} {m} {r} {l} {ts} {us} f g =
    record {
      from = omega (arith, f.from, g.from);
      to = g.to;
      adds = λ at front s. subst (Spelled l at r) (append_assoc front ts us) (g.adds at (front ++ ts) (f.adds at front s));
    }

pub one_space : {i : ℕ} {l : List ℕ} → Stands l i space → Gap l i (i + 1)
one_space {i} {l} h =
    record {
      some = omega arith;
      spaces = stretch_step is_space (stretch_start is_space i l (omega (arith, h.inside))) h.inside (eq-eqb _ space h.is);
    }

-- a number behind spaces
pub number_spaced : {i s r : ℕ} {l : List ℕ} → Gap l i s → IsField is_number l s r → NumberFollows l i r
number_spaced {i} {s} {r} {l} gap n = record { text = part s r l; follow = spaced gap (number_spelled n); is = n.is }

-- ---- numbers, one after the other

pub numbers_start : (i : ℕ) (l : List ℕ) → i ≤ length l → Numbers l i i 0
numbers_start i l h =
    record {
      texts = [];
      follow = record { from = omega arith; to = h; adds = λ at front s. rw (append-nil front) s };
      size = refl;
      are = tt;
    }

pub numbers_more : {i m r k : ℕ} {l : List ℕ} → Numbers l i m k → NumberFollows l m r → Numbers l i r (k + 1)
numbers_more ns x =
    record {
      texts = ns.texts ++ (x.text ∷ []);
      follow = follow_on ns.follow x.follow;
      size = length-append ns.texts (x.text ∷ []) ∙ ap (λ (j : ℕ). j + 1) ns.size;
      are = every_add (λ (t : List ℕ). is_number t ≡ true) ns.texts x.text ns.are x.is;
    }

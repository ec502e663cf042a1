-- The fields of a line against the kinds that they have to be, one after the other: what is left decides.
-- Assumes nothing.
use Prim.Native.Nat.{ℕ, zero, suc, ◌+◌, ◌-◌, ◌≤◌, ◌<◌}
use native.Mathlib.Omega.{arith}
use mathlib.Core.List.{List, [], ◌∷◌, ◌++◌, append_assoc, append-nil}
use mathlib.Core.Path.{◌≡◌, refl, sym, ap, ap₂, ◌∙◌}
use lib.ListN.{length, drop, get_or, set, length-set, drop_of_length-le}
use lib.Seq.{drop-cons, get_or-set_same, get_or-set_other}
use native.Mathlib.Numerals.{add-one}
use Rattle.std.proofs.lemmas.List.{get_or_default}
use Rattle.rules.specs.Text.{Field, fields_from, fields_of}
use Rattle.rules.specs.Line.{value, wrong, read_field, Fitted, fits, misfit, in_front, fit, fit_over, fault}
use Rattle.rules.specs.declared.line.Fault.{Fault}
use Rattle.rules.specs.declared.line.FaultKind.{FaultKind}
use Rattle.rules.specs.declared.line.FaultKind.TheVariants.{FieldCount}
use Rattle.rules.specs.declared.line.Kind.{Kind}
use Rattle.rules.specs.declared.line.Kind.TheVariants.{Anything}
use Rattle.text.specs.Scan.{part, InFile}
use Rattle.text.specs.FieldBounds.{field_start, field_stop}
use Rattle.text.proofs.FieldLaws.{FieldFound, field, field_found, no_field, start_least, start_most}
use Rattle.text.proofs.ScanLaws.{in_line, part_all}
use Rattle.line.specs.Fields.{value_as, FieldLeft, FieldAs, FieldWrong, missing, differs}
use Rattle.line.specs.Fitting.{values_of, line_fields}

-- ---- values in front of those that are fitted

pub behind : List ℕ → Fitted → Fitted
behind vs (fits ws) = fits (vs ++ ws)
behind vs (misfit f) = misfit f

behind_none : (r : Fitted) → behind [] r ≡ r
unfolding behind
behind_none (fits ws) = refl
behind_none (misfit f) = refl

behind_more : (vs : List ℕ) (c x : ℕ) (r : Fitted) → behind vs (in_front c (value x) r) ≡ behind (vs ++ (x ∷ [])) r
unfolding behind in_front
behind_more vs c x (fits ws) = ap fits (sym (append_assoc vs (x ∷ []) ws))
behind_more vs c x (misfit f) = refl

fit_first : (end : ℕ) (k : Kind) (ks : List Kind) (c : ℕ) (t : List ℕ) (fs : List Field) →
    fit end (k ∷ ks) (field c t ∷ fs) ≡ in_front c (read_field k t) (fit end ks fs)
unfolding fit_over
fit_first end k ks c t fs = refl

-- ---- the loop

-- the line from at to stop against ks: up to position i the fields have these values, and rest is what the others have to be
pub record Fitting (ks : List Kind) (at stop : ℕ) (l : List ℕ) (done : List ℕ) (rest : List Kind) (i : ℕ) : Type 0 where
  pub from : at ≤ i
  pub to : i ≤ stop
  pub size : stop ≤ length l
  pub same : behind done (fit (stop - at + 1) rest (fields_from (i - at + 1) (part i stop l))) ≡ fit (stop - at + 1) ks (line_fields at stop l)

pub fitting_start : (ks : List Kind) (at stop : ℕ) (l : List ℕ) → InFile at stop l → Fitting ks at stop l [] ks at
unfolding fields_of
fitting_start ks at stop l h =
    let first : at - at + 1 ≡ 1 = omega arith in
    record {
      from = omega arith;
      to = h.order;
      size = h.size;
      same = rw first (behind_none (fit (stop - at + 1) ks (fields_from 1 (part at stop l))));
    }

module _ {ks : List Kind} {at stop : ℕ} {l done : List ℕ} {i : ℕ} (s : ℕ) (e : s ≡ field_start i stop l) where
  module _ {k : Kind} {rest : List Kind} (f : Fitting ks at stop l done (k ∷ rest) i) where
    -- a field too few
    pub fitting_few : s ≡ stop → misfit (fault FieldCount (stop - at + 1)) ≡ fit (stop - at + 1) ks (line_fields at stop l)
    unfolding behind fit_over
    fitting_few g =
        rw (no_field i stop s l (record { order = f.to; size = f.size }) e g (i - at + 1)) at f.same

    -- the next field is the text t
    module _ (g : s < stop) (t : List ℕ) (b : t ≡ part (field_start s stop l) (field_stop s stop l) l) where
      found : FieldFound i stop s l t
      found = field_found i stop s l (record { order = f.to; size = f.size }) e g t b

      least : i ≤ s
      least = omega (arith, start_least i stop l (record { order = f.to; size = f.size }))

      here : behind done (in_front (s - at + 1) (read_field k t) (fit (stop - at + 1) rest (fields_from (s + length t - at + 1) (part (s + length t) stop l)))) ≡ fit (stop - at + 1) ks (line_fields at stop l)
      here =
          let c : i - at + 1 + (s - i) ≡ s - at + 1 = omega (arith, least, f.from) in
          let n : i - at + 1 + (s + length t - i) ≡ s + length t - at + 1 = omega (arith, least, f.from) in
          ap (behind done) (sym (ap (fit (stop - at + 1) (k ∷ rest)) (found.anywhere (i - at + 1) ∙ ap₂ (λ (m o : ℕ). field m t ∷ fields_from o (part (s + length t) stop l)) c n) ∙ fit_first _ k rest _ t _))
          ∙ f.same

      pub fitting_wrong : {j : FaultKind} → wrong j ≡ read_field k t → misfit (fault j (s - at + 1)) ≡ fit (stop - at + 1) ks (line_fields at stop l)
      unfolding behind in_front
      fitting_wrong h = rw (← h) at here

      pub fitting_step : {x : ℕ} → value x ≡ read_field k t → Fitting ks at stop l (done ++ (x ∷ [])) rest (s + length t)
      fitting_step {x} h =
          record {
            from = omega (arith, least, f.from);
            to = found.fits;
            size = f.size;
            same = sym (behind_more done (s - at + 1) x _) ∙ (rw (← h) at here);
          }

  module _ (f : Fitting ks at stop l done [] i) where
    -- a field too many
    pub fitting_many : s < stop → misfit (fault FieldCount (s - at + 1)) ≡ fit (stop - at + 1) ks (line_fields at stop l)
    unfolding behind fit_over
    fitting_many g =
        let h : InFile i stop l = record { order = f.to; size = f.size } in
        let c : i - at + 1 + (s - i) ≡ s - at + 1 = omega (arith, start_least i stop l h, f.from) in
        rw ((field_found i stop s l h e g _ refl).anywhere (i - at + 1), c) at f.same

    -- all fields fit
    pub fitting_end : stop ≤ s → fits done ≡ fit (stop - at + 1) ks (line_fields at stop l)
    unfolding behind fit_over
    fitting_end g =
        let h : InFile i stop l = record { order = f.to; size = f.size } in
        let n : s ≡ stop = omega (arith, start_most i stop l h) in
        ap fits (sym (append-nil done)) ∙ (rw (no_field i stop s l h e n (i - at + 1)) at f.same)

-- ---- a line by itself

whole : (l : List ℕ) → line_fields 0 (length l) l ≡ fields_of l
whole l = ap fields_of (part_all 0 l)

-- what stands of a whole line, from its first byte on
module _ (ks : List Kind) (l : List ℕ) where
  line_told : {x : Fitted} → x ≡ fit (length l - 0 + 1) ks (line_fields 0 (length l) l) → x ≡ fit (length l + 1) ks (fields_of l)
  line_told e = let n : length l - 0 ≡ length l = omega arith in rw (n, whole l) at e

pub line_start : (ks : List Kind) (l : List ℕ) → Fitting ks 0 (length l) l [] ks 0
line_start ks l = fitting_start ks 0 (length l) l (in_line _ _ (omega arith))

module _ {ks : List Kind} {l done : List ℕ} {i : ℕ} where
  module _ {k : Kind} {rest : List Kind} (f : Fitting ks 0 (length l) l done (k ∷ rest) i) where
    pub line_more : {v e : ℕ} → FieldAs k i l v e → Fitting ks 0 (length l) l (done ++ (v ∷ [])) rest e
    line_more a = rw a.ends (fitting_step a.start a.starts.found f a.starts.inside _ refl a.reads)

    pub line_wrong : {g : Fault} → FieldWrong k i l g → misfit g ≡ fit (length l + 1) ks (fields_of l)
    line_wrong (missing n) =
        ap misfit n.told ∙ (let m : length l - 0 ≡ length l = omega arith in rw (m, whole l) at (fitting_few _ refl f n.found))
    line_wrong (differs d) =
        rw (← d.column) at (line_told ks l (let m : d.start - 0 ≡ d.start = omega arith in rw m at (fitting_wrong d.start d.starts.found f d.starts.inside _ refl d.reads)))

  module _ (f : Fitting ks 0 (length l) l done [] i) where
    pub line_many : {g : Fault} → FieldLeft i l g → misfit g ≡ fit (length l + 1) ks (fields_of l)
    line_many n =
        ap misfit n.told
        ∙ line_told ks l (let m : n.start - 0 ≡ n.start = omega arith in rw m at (fitting_many n.start n.starts.found f n.starts.inside))

    pub line_end : field_start i (length l) l ≡ length l → fits done ≡ fit (length l + 1) ks (fields_of l)
    line_end n = line_told ks l (fitting_end (length l) (sym n) f (omega arith))

-- ---- the loop's numbers and names

module _ (ks : List Kind) (ns ms : List ℕ) (k n m : ℕ) where
  -- what stands at k does not count among the first values
  values_kept : (j : ℕ) → j ≤ k → values_of j ks (set ns k n) (set ms k m) ≡ values_of j ks ns ms
  unfolding values_of
  values_kept zero h = refl
  values_kept (suc j) h =
      rw (values_kept j (omega arith), get_or-set_other ns k j n 0 (λ e. omega arith), get_or-set_other ms k j m 0 (λ e. omega arith))

  values_more : k < length ns → k < length ms
      → values_of (suc k) ks (set ns k n) (set ms k m) ≡ values_of k ks ns ms ++ (value_as (get_or ks k Anything) n m ∷ [])
  unfolding values_of
  values_more h g = rw (values_kept k (omega arith), get_or-set_same ns k n 0 h, get_or-set_same ms k m 0 g)

-- k fields are read, and the other kinds are left
pub record Kept (ks : List Kind) (l ns ms : List ℕ) (i k : ℕ) : Type 0 where
  pub within : i ≤ length l
  pub numbers : length ns ≡ 8
  pub names : length ms ≡ 8
  pub fitting : Fitting ks 0 (length l) l (values_of k ks ns ms) (drop k ks) i

pub kept_start : (ks : List Kind) (l ns ms : List ℕ) → length ns ≡ 8 → length ms ≡ 8 → Kept ks l ns ms 0 0
unfolding values_of
kept_start ks l ns ms n m = record { within = omega arith; numbers = n; names = m; fitting = line_start ks l }

module _ {ks : List Kind} {l ns ms : List ℕ} {i k : ℕ} (q : Kept ks l ns ms i k) where
  module _ (d : Kind) (h : k < length ks) where
    next : Fitting ks 0 (length l) l (values_of k ks ns ms) (get_or ks k d ∷ drop (suc k) ks) i
    next = rw (drop-cons ks k d h) at q.fitting

    pub kept_wrong : {f : Fault} → FieldWrong (get_or ks k d) i l f → misfit f ≡ fit (length l + 1) ks (fields_of l)
    kept_wrong w = line_wrong next w

    pub kept_step : (n m : ℕ) {e : ℕ} → k < 8 → FieldAs (get_or ks k d) i l (value_as (get_or ks k d) n m) e → Kept ks l (set ns k n) (set ms k m) e (k + 1)
    kept_step n m {e} g a =
        record {
          within = a.most;
          numbers = length-set ns k n ∙ q.numbers;
          names = length-set ms k m ∙ q.names;
          fitting =
              rw (add-one, values_more ks ns ms k n m (omega (arith, q.numbers)) (omega (arith, q.names)), get_or_default ks k Anything d h) (line_more next a);
        }

  module _ (h : length ks ≤ k) where
    last : Fitting ks 0 (length l) l (values_of k ks ns ms) [] i
    last = rw (drop_of_length-le ks h) at q.fitting

    pub kept_many : {f : Fault} → FieldLeft i l f → misfit f ≡ fit (length l + 1) ks (fields_of l)
    kept_many n = line_many last n

    pub kept_end : k ≤ length ks → field_start i (length l) l ≡ length l → fits (values_of (length ks) ks ns ms) ≡ fit (length l + 1) ks (fields_of l)
    kept_end g n = let m : k ≡ length ks = omega arith in rw m at (line_end last n)

-- What stands undefined in a table that a module has joined: it stood so before, or behind the symbols of before.
use Prim.Native.Nat.{ℕ, zero, suc, ◌≤◌}
use native.Mathlib.Omega.{arith}
use mathlib.Core.Bool.{Bool, true, false, cond, not, ◌&&◌, ◌||◌}
use mathlib.Core.List.{List, [], ◌∷◌}
use mathlib.Core.Logic.{◌⊎◌, inl, inr}
use mathlib.Core.Path.{◌≡◌, refl, sym, ap, ◌∙◌}
use lib.ListN.{length, take, drop, take-append-drop}
use lib.Seq.{take-length}
use Rattle.rules.specs.Text.{any}
use Rattle.rules.specs.Reading.{Module}
use Rattle.rules.specs.State.{Symbol, symbol, name_is, is_undefined}
use Rattle.rules.specs.Placing.{value_at, define, mention, define_all, mention_all, joined, entries, externals}
use Rattle.rules.specs.declared.line.Entry.{Entry}
use Rattle.rules.proofs.BoolLaws.{or_on, any_append}
use Rattle.rules.proofs.SoundLaws.{define_longer, mention_longer}

-- the table u has come out of t: it is as long, and what is undefined among the symbols of t was so in t
record Grown (t u : List Symbol) : Type 0 where
  longer : length t ≤ length u
  front : (y k : ℕ) → k ≤ length t → is_undefined y (take k u) ≡ true → is_undefined y (take k t) ≡ true

grown_same : (t : List Symbol) → Grown t t
grown_same t = record { longer = omega arith; front = λ y k h e. e }

grown_on : {t u v : List Symbol} → Grown t u → Grown u v → Grown t v
grown_on {t} {u} {v} p q =
    record {
      longer = omega (arith, p.longer, q.longer);
      front = λ y k h e. p.front y k h (q.front y k (omega (arith, p.longer)) e);
    }

-- one symbol in front of two tables
or_map : (a : Bool) {b c : Bool} → (b ≡ true → c ≡ true) → (a || b) ≡ true → (a || c) ≡ true
or_map true f e = refl
or_map false f e = f e

pub or_more : (a : Bool) {b : Bool} → b ≡ true → (a || b) ≡ true
or_more true e = refl
or_more false e = e

define_front : (x v : ℕ) (t : List Symbol) (y k : ℕ) → k ≤ length t → is_undefined y (take k (define x v t)) ≡ true →
    is_undefined y (take k t) ≡ true
unfolding define is_undefined any
define_front x v t y zero h e = e
define_front x v [] y (suc k) h e = absurd (omega arith)
define_front x v (s ∷ t) y (suc k) h e = go (name_is x s) (define_front x v t y k (omega (arith, h))) e
  where
    plain : (d : Bool) → (d && false || is_undefined y (take k t)) ≡ true → is_undefined y (take k t) ≡ true
    plain true e = e
    plain false e = e

    go : (b : Bool) → (is_undefined y (take k (define x v t)) ≡ true → is_undefined y (take k t) ≡ true) →
        is_undefined y (take (suc k) (cond b (symbol x v true ∷ t) (s ∷ define x v t))) ≡ true →
        is_undefined y (take (suc k) (s ∷ t)) ≡ true
    go true ih e = or_more (name_is y s && not s.defined) (plain (name_is y (symbol x v true)) e)
    go false ih e = or_map (name_is y s && not s.defined) ih e

mention_front : (x : ℕ) (t : List Symbol) (y k : ℕ) → k ≤ length t → is_undefined y (take k (mention x t)) ≡ true →
    is_undefined y (take k t) ≡ true
unfolding mention is_undefined any
mention_front x t y zero h e = e
mention_front x [] y (suc k) h e = absurd (omega arith)
mention_front x (s ∷ t) y (suc k) h e = go (name_is x s) (mention_front x t y k (omega (arith, h))) e
  where
    go : (b : Bool) → (is_undefined y (take k (mention x t)) ≡ true → is_undefined y (take k t) ≡ true) →
        is_undefined y (take (suc k) (cond b (s ∷ t) (s ∷ mention x t))) ≡ true →
        is_undefined y (take (suc k) (s ∷ t)) ≡ true
    go true ih e = e
    go false ih e = or_map (name_is y s && not s.defined) ih e

grown_defined : (base : ℕ) (es : List Entry) (t : List Symbol) → Grown t (define_all base es t)
unfolding define_all
grown_defined base [] t = grown_same t
grown_defined base (e ∷ es) t =
    grown_on
    (record { longer = define_longer e.name (value_at base e) t; front = define_front e.name (value_at base e) t })
    (grown_defined base es (define e.name (value_at base e) t))

grown_mentioned : (xs : List ℕ) (t : List Symbol) → Grown t (mention_all xs t)
unfolding mention_all
grown_mentioned [] t = grown_same t
grown_mentioned (x ∷ xs) t =
    grown_on (record { longer = mention_longer x t; front = mention_front x t }) (grown_mentioned xs (mention x t))

grown_joined : (base : ℕ) (m : Module) (t : List Symbol) → Grown t (joined base m t)
unfolding joined
grown_joined base m t =
    grown_on (grown_defined base (entries m) t) (grown_mentioned (externals m) (define_all base (entries m) t))

-- a table in two parts
undefined_split : (y k : ℕ) (u : List Symbol) → is_undefined y u ≡ true →
    (is_undefined y (take k u) || is_undefined y (drop k u)) ≡ true
unfolding is_undefined
undefined_split y k u e =
    sym (any_append (λ s. name_is y s && not s.defined) (take k u) (drop k u))
    ∙ ap (any (λ s. name_is y s && not s.defined)) (take-append-drop k u)
    ∙ e

-- undefined: before the module joined, or behind
pub undefined_grown : (base : ℕ) (m : Module) (t : List Symbol) (y : ℕ) → is_undefined y (joined base m t) ≡ true →
    (is_undefined y t ≡ true) ⊎ (is_undefined y (drop (length t) (joined base m t)) ≡ true)
undefined_grown base m t y e =
    go (or_on (is_undefined y (take (length t) u)) (is_undefined y (drop (length t) u)) (undefined_split y (length t) u e))
  where
    u : List Symbol
    u = joined base m t

    go : (is_undefined y (take (length t) u) ≡ true) ⊎ (is_undefined y (drop (length t) u) ≡ true) →
        (is_undefined y t ≡ true) ⊎ (is_undefined y (drop (length t) u) ≡ true)
    go (inl f) =
        inl (ap (is_undefined y) (sym (take-length t)) ∙ (grown_joined base m t).front y (length t) (omega arith) f)
    go (inr f) = inr f

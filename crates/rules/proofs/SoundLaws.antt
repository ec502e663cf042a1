-- Placing a legal module takes a sound state to a sound state.
use Prim.Native.Nat.{ℕ, suc, ◌+◌, ◌-◌, ◌<◌, ◌≤◌, ◌^◌, zero-le, suc-le-suc}
use native.Mathlib.Nat.{le_refl}
use native.Mathlib.Omega.{arith}
use mathlib.Core.Bool.{Bool, true, false, cond, ◌&&◌, ◌||◌, false≢true}
use mathlib.Core.List.{List, [], ◌∷◌}
use mathlib.Core.Path.{◌≡◌, refl, ◌∙◌}
use lib.ListN.{length, set}
use lib.Dec.{eqb, ltb, leb}
use borrow.Author.Tests.{ltb-true, ltb-false, lt-ltb, le-leb, leb-true, eqb-true, eq-eqb, eqb-false}
use Rattle.rules.specs.Text.{all, any, is_packed}
use Rattle.rules.specs.State.{Symbol, symbol, name_is, is_symbol, position_of, Word, unplaced, plain, refers, State, sound_symbol, sound_symbol_over, different_names, sound_word, sound, sound_over}
use Rattle.rules.specs.Reading.{Module}
use Rattle.rules.specs.Demand.{is_external}
use Rattle.rules.specs.Placing.{Code, entries, externals, code, module_length, value_at, define, mention, define_all, mention_all, joined, linked, put_all, no_room, bad_argument, bad_arguments, out_of_range, table_full, placed, external_name}
use Rattle.rules.specs.declared.line.Entry.{Entry}
use Rattle.rules.specs.declared.line.Relocation.{Relocation}
use Rattle.rules.specs.declared.line.Relocation.TheVariants.{Plain, External, Unread}
use Rattle.rules.proofs.LineLaws.{legal_entry, legal_word, legal_relocation}
use Rattle.rules.proofs.TableLaws.{symbol_joined, different_joined}
use Rattle.rules.proofs.PlacingLaws.{Passed, placed_length}
use Rattle.rules.proofs.TestLaws.{and_intro, and_left, and_right, or_left, or_right, cond_keeps, all_first, all_rest, all_cons, all_set, all_weaken, all_at, none_first, none_rest}

-- ---- a sound state, fact by fact

pub record Sound (s : State) : Type 0 where
  pub few : length s.symbols ≤ 256
  pub each : all sound_symbol s.symbols ≡ true
  pub different : different_names s.symbols ≡ true
  pub size : length s.words ≡ 4096
  pub words : all (sound_word (length s.symbols)) s.words ≡ true
  pub next : s.next ≤ 4096

pub facts : (s : State) → sound s ≡ true → Sound s
unfolding sound_over
facts s h =
    let a = leb (length s.symbols) 256 in
    let b = all sound_symbol s.symbols in
    let c = different_names s.symbols in
    let d = eqb (length s.words) 4096 in
    let e = all (sound_word (length s.symbols)) s.words in
    let f = leb s.next 4096 in
    let h₁ = and_right a (b && (c && (d && (e && f)))) h in
    let h₂ = and_right b (c && (d && (e && f))) h₁ in
    let h₃ = and_right c (d && (e && f)) h₂ in
    let h₄ = and_right d (e && f) h₃ in
    record {
      few = leb-true (length s.symbols) 256 (and_left a (b && (c && (d && (e && f)))) h);
      each = and_left b (c && (d && (e && f))) h₁;
      different = and_left c (d && (e && f)) h₂;
      size = eqb-true (length s.words) 4096 (and_left d (e && f) h₃);
      words = and_left e f h₄;
      next = leb-true s.next 4096 (and_right e f h₄);
    }

pub whole : (s : State) → Sound s → sound s ≡ true
unfolding sound_over
whole s h =
    and_intro
    (le-leb (length s.symbols) 256 h.few)
    (and_intro
    h.each
    (and_intro
    h.different
    (and_intro (eq-eqb (length s.words) 4096 h.size) (and_intro h.words (le-leb s.next 4096 h.next)))))

-- ---- symbols

defined_sound : (x v : ℕ) → is_packed x ≡ true → v ≤ 65535 → sound_symbol (symbol x v true) ≡ true
unfolding sound_symbol_over
defined_sound x v p q = and_intro p (and_intro (le-leb v 65535 q) refl)

mentioned_sound : (x : ℕ) → is_packed x ≡ true → sound_symbol (symbol x 0 false) ≡ true
unfolding sound_symbol_over
mentioned_sound x p = and_intro p refl

define_each : (x v : ℕ) (t : List Symbol) → is_packed x ≡ true → v ≤ 65535 → all sound_symbol t ≡ true → all sound_symbol (define x v t) ≡ true
unfolding define
define_each x v [] p q h = all_cons sound_symbol (symbol x v true) [] (defined_sound x v p q) h
define_each x v (s ∷ t) p q h =
    cond_keeps
    (all sound_symbol)
    (name_is x s)
    (all_cons sound_symbol (symbol x v true) t (defined_sound x v p q) (all_rest sound_symbol s t h))
    (all_cons sound_symbol s (define x v t) (all_first sound_symbol s t h) (define_each x v t p q (all_rest sound_symbol s t h)))

pub mention_each : (x : ℕ) (t : List Symbol) → is_packed x ≡ true → all sound_symbol t ≡ true → all sound_symbol (mention x t) ≡ true
unfolding mention
mention_each x [] p h = all_cons sound_symbol (symbol x 0 false) [] (mentioned_sound x p) h
mention_each x (s ∷ t) p h =
    cond_keeps
    (all sound_symbol)
    (name_is x s)
    h
    (all_cons sound_symbol s (mention x t) (all_first sound_symbol s t h) (mention_each x t p (all_rest sound_symbol s t h)))

-- an entry with a legal name, whose value fits at a base
pub fitting_entry : ℕ → Entry → Bool
fitting_entry base e = is_packed e.name && leb (value_at base e) 65535

-- a legal entry fits where the test of its range passed
fits_at : (base : ℕ) (e : Entry) → legal_entry e ≡ true → (e.relocated && ltb 65535 (e.value + base)) ≡ false → fitting_entry base e ≡ true
unfolding legal_entry fitting_entry value_at
fits_at base e l r =
    let name_legal = and_left (is_packed e.name) (leb e.value 65535 && leb e.parameters 65535) l in
    let bounds = and_right (is_packed e.name) (leb e.value 65535 && leb e.parameters 65535) l in
    let small : e.value ≤ 65535 = leb-true e.value 65535 (and_left (leb e.value 65535) (leb e.parameters 65535) bounds) in
    and_intro name_legal (go e.relocated r small)
  where
    go : (b : Bool) → (b && ltb 65535 (e.value + base)) ≡ false → e.value ≤ 65535 → leb (cond b (e.value + base) e.value) 65535 ≡ true
    go true r h = le-leb _ _ (ltb-false 65535 (e.value + base) r)
    go false r h = le-leb _ _ h

or_end : (b : Bool) → (b || true) ≡ true
or_end true = refl
or_end false = refl

define_all_each : (base : ℕ) (es : List Entry) (t : List Symbol)
    → all (fitting_entry base) es ≡ true → all sound_symbol t ≡ true → all sound_symbol (define_all base es t) ≡ true
unfolding define_all fitting_entry
define_all_each base [] t l h = h
define_all_each base (e ∷ es) t l h =
    let le = all_first (fitting_entry base) e es l in
    define_all_each
    base
    es
    (define e.name (value_at base e) t)
    (all_rest (fitting_entry base) e es l)
    (define_each
    e.name
    (value_at base e)
    t
    (and_left (is_packed e.name) (leb (value_at base e) 65535) le)
    (leb-true (value_at base e) 65535 (and_right (is_packed e.name) (leb (value_at base e) 65535) le))
    h)

mention_all_each : (xs : List ℕ) (t : List Symbol)
    → all is_packed xs ≡ true → all sound_symbol t ≡ true → all sound_symbol (mention_all xs t) ≡ true
unfolding mention_all
mention_all_each [] t l h = h
mention_all_each (x ∷ xs) t l h =
    mention_all_each xs (mention x t) (all_rest is_packed x xs l) (mention_each x t (all_first is_packed x xs l) h)

-- ---- the table only grows

cond_longer : (n : ℕ) (b : Bool) (p q : List Symbol) → n ≤ length p → n ≤ length q → n ≤ length (cond b p q)
cond_longer n true p q h k = h
cond_longer n false p q h k = k

pub define_longer : (x v : ℕ) (t : List Symbol) → length t ≤ length (define x v t)
unfolding define
define_longer x v [] = zero-le
define_longer x v (s ∷ t) =
    cond_longer
    (suc (length t))
    (name_is x s)
    (symbol x v true ∷ t)
    (s ∷ define x v t)
    (le_refl (suc (length t)))
    (suc-le-suc (define_longer x v t))

pub mention_longer : (x : ℕ) (t : List Symbol) → length t ≤ length (mention x t)
unfolding mention
mention_longer x [] = zero-le
mention_longer x (s ∷ t) =
    cond_longer
    (suc (length t))
    (name_is x s)
    (s ∷ t)
    (s ∷ mention x t)
    (le_refl (suc (length t)))
    (suc-le-suc (mention_longer x t))

pub define_all_longer : (base : ℕ) (es : List Entry) (t : List Symbol) → length t ≤ length (define_all base es t)
unfolding define_all
define_all_longer base [] t = le_refl (length t)
define_all_longer base (e ∷ es) t =
    omega (arith, define_longer e.name (value_at base e) t, define_all_longer base es (define e.name (value_at base e) t))

pub mention_all_longer : (xs : List ℕ) (t : List Symbol) → length t ≤ length (mention_all xs t)
unfolding mention_all
mention_all_longer [] t = le_refl (length t)
mention_all_longer (x ∷ xs) t = omega (arith, mention_longer x t, mention_all_longer xs (mention x t))

joined_longer : (base : ℕ) (m : Module) (t : List Symbol) → length t ≤ length (joined base m t)
unfolding joined
joined_longer base m t =
    omega (arith, define_all_longer base (entries m) t, mention_all_longer (externals m) (define_all base (entries m) t))

-- ---- words

pub sound_word_more : (n k : ℕ) → n ≤ k → (w : Word) → sound_word n w ≡ true → sound_word k w ≡ true
unfolding sound_word
sound_word_more n k l unplaced h = h
sound_word_more n k l (plain x) h = h
sound_word_more n k l (refers x i) h =
    let fits : i < n = ltb-true i n (and_right (ltb x (2 ^ 64)) (ltb i n) h) in
    and_intro (and_left (ltb x (2 ^ 64)) (ltb i n) h) (lt-ltb i k (omega arith))

-- a symbol of the table stands below its length
pub position_below : (x : ℕ) (t : List Symbol) → is_symbol x t ≡ true → position_of x t < length t
unfolding is_symbol any position_of
position_below x [] h = absurd (false≢true h)
position_below x (s ∷ t) h = go (name_is x s) h (position_below x t)
  where
    go : (b : Bool) → (b || any (name_is x) t) ≡ true → (any (name_is x) t ≡ true → position_of x t < length t) → cond b 0 (position_of x t + 1) < suc (length t)
    go true h ih = suc-le-suc zero-le
    go false h ih = let k : position_of x t < length t = ih h in omega arith

-- a word that refers only to symbols of the table
linked_sound : (xs : List ℕ) (t : List Symbol) (text : ℕ) (r : Relocation)
    → text < 2 ^ 64 → all (λ x. is_symbol x t) xs ≡ true → bad_argument (length xs) r ≡ false → sound_word (length t) (linked xs t text r) ≡ true
unfolding sound_word linked bad_argument
linked_sound xs t text Plain l h b = lt-ltb text (2 ^ 64) l
linked_sound xs t text (Unread type) l h b = lt-ltb text (2 ^ 64) l
linked_sound xs t text (External k) l h b =
    let Some_number = eqb-false k 0 (or_left (eqb k 0) (ltb (length xs) k) b) in
    let within : k ≤ length xs = ltb-false (length xs) k (or_right (eqb k 0) (ltb (length xs) k) b) in
    let inside : k - 1 < length xs = omega (arith, Some_number) in
    and_intro
    (lt-ltb text (2 ^ 64) l)
    (lt-ltb _ _ (position_below (external_name xs k) t (all_at (λ x. is_symbol x t) xs (k - 1) 0 h inside)))

put_sound : (n base : ℕ) (xs : List ℕ) (t : List Symbol) (cs : List Code) (ws : List Word)
    → all (λ c. sound_word n (linked xs t c.word.text c.word.relocation)) cs ≡ true
    → all (sound_word n) ws ≡ true → all (sound_word n) (put_all base xs t cs ws) ≡ true
unfolding put_all
put_sound n base xs t [] ws l h = h
put_sound n base xs t (c ∷ cs) ws l h =
    let w = linked xs t c.word.text c.word.relocation in
    let p : Code → Bool = λ c. sound_word n (linked xs t c.word.text c.word.relocation) in
    put_sound n base xs t cs (set ws (base + c.address) w) (all_rest p c cs l)
    (all_set (sound_word n) ws (base + c.address) w h (all_first p c cs l))

-- ---- a legal module

-- a module with the names, values and texts that a file can give it
pub record Legal (m : Module) : Type 0 where
  pub entries_legal : all legal_entry (entries m) ≡ true
  pub externals_legal : all is_packed (externals m) ≡ true
  pub code_legal : all (λ c. legal_word c.word) (code m) ≡ true

-- every external of the module is a symbol once it joined
externals_joined : (base : ℕ) (m : Module) (t : List Symbol) (xs : List ℕ)
    → ((x : ℕ) → any (eqb x) xs ≡ true → is_external x m ≡ true) → all (λ x. is_symbol x (joined base m t)) xs ≡ true
unfolding all any
externals_joined base m t [] h = refl
externals_joined base m t (x ∷ xs) h =
    all_cons
    (λ y. is_symbol y (joined base m t))
    x
    xs
    (symbol_joined base m t x ∙ simp (h x (simp (eq-eqb x x refl))))
    (externals_joined base m t xs (λ y k. h y (rw k (or_end (eqb y x)))))

fitting : (base : ℕ) (es : List Entry)
    → all legal_entry es ≡ true → any (λ e. e.relocated && ltb 65535 (e.value + base)) es ≡ false → all (fitting_entry base) es ≡ true
unfolding all
fitting base [] l r = refl
fitting base (e ∷ es) l r =
    all_cons
    (fitting_entry base)
    e
    es
    (fits_at base e (all_first legal_entry e es l) (none_first _ e es r))
    (fitting base es (all_rest legal_entry e es l) (none_rest _ e es r))

words_linked_lem : (base : ℕ) (xs : List ℕ) (t : List Symbol) (cs : List Code)
    → all (λ x. is_symbol x t) xs ≡ true → all (λ c. legal_word c.word) cs ≡ true
    → any (λ c. bad_argument (length xs) c.word.relocation) cs ≡ false
    → all (λ c. sound_word (length t) (linked xs t c.word.text c.word.relocation)) cs ≡ true
unfolding all legal_word
words_linked_lem base xs t [] h l b = refl
words_linked_lem base xs t (c ∷ cs) h l b =
    all_cons
    (λ c. sound_word (length t) (linked xs t c.word.text c.word.relocation))
    c
    cs
    (linked_sound
    xs
    t
    c.word.text
    c.word.relocation
    (ltb-true c.word.text (2 ^ 64) (and_left (ltb c.word.text (2 ^ 64)) (legal_relocation c.word.relocation) (all_first (λ c. legal_word c.word) c cs l)))
    h
    (none_first (λ c. bad_argument (length xs) c.word.relocation) c cs b))
    (words_linked_lem base xs t cs h (all_rest (λ c. legal_word c.word) c cs l) (none_rest (λ c. bad_argument (length xs) c.word.relocation) c cs b))

pub placed_sound : (s : State) (m : Module) → Sound s → Legal m → Passed s m → Sound (placed s m)
unfolding placed joined no_room bad_arguments out_of_range table_full is_external
placed_sound s m h l p =
    let base : ℕ = s.next in
    let t = joined base m s.symbols in
    let symbols_there = externals_joined base m s.symbols (externals m) (λ x k. k) in
    record {
      few = ltb-false 256 (length t) p.table;
      each =
          mention_all_each
          (externals m)
          (define_all base (entries m) s.symbols)
          l.externals_legal
          (define_all_each base (entries m) s.symbols (fitting base (entries m) l.entries_legal p.range) h.each);
      different = different_joined base m s.symbols h.different;
      size = placed_length s m ∙ h.size;
      words =
          put_sound
          (length t)
          base
          (externals m)
          t
          (code m)
          s.words
          (words_linked_lem base (externals m) t (code m) symbols_there l.code_legal p.arguments)
          (all_weaken
          (sound_word (length s.symbols))
          (sound_word (length t))
          (sound_word_more (length s.symbols) (length t) (joined_longer base m s.symbols))
          s.words
          h.words);
      next = ltb-false 4096 (base + module_length m) p.room;
    }

-- Words that are laid and then linked are the words that the definition puts.
use Prim.Native.Nat.{ℕ, zero, suc, ◌+◌, ◌-◌, ◌<◌, ◌≤◌}
use native.Mathlib.Nat.{not-suc-le-zero, le_of_suc-le-suc}
use native.Mathlib.Omega.{arith}
use mathlib.Core.Bool.{Bool, true, false, cond, ◌||◌, or-true}
use mathlib.Core.List.{List, [], ◌∷◌, map}
use mathlib.Core.Logic.{◌≢◌}
use mathlib.Core.Path.{◌≡◌, refl, sym, ap, ap₂, subst, ◌∙◌}
use lib.ListN.{length, get_or, set, take, length-set}
use lib.Seq.{set-set, set_comm, set_out, get_or-set_same, get_or-set_other, get_or-take}
use lib.Dec.{eqb, ltb}
use borrow.Author.Tests.{eqb-false, ltb-false, ltb-true}
use Rattle.rules.specs.Text.{any}
use Rattle.rules.specs.State.{Symbol, name_is, is_symbol, position_of, Word, unplaced, plain, refers, is_placed}
use Rattle.rules.specs.Placing.{Code, mention, mention_all, linked, put_all, bad_argument}
use Rattle.rules.proofs.OverlapLaws.{clash}
use Rattle.rules.specs.declared.line.Relocation.{Relocation}
use Rattle.rules.specs.declared.line.Relocation.TheVariants.{Plain, External, Unread}
use Rattle.rules.proofs.BoolLaws.{cond_cases, never, or_off, eqb_same}
use Rattle.rules.proofs.TableLaws.{symbol_mention, symbol_mention_all}
use Rattle.rules.proofs.SoundLaws.{position_below}
use Rattle.rules.proofs.TestLaws.{none_first, none_rest}
use Rattle.placing.specs.Passes.{bad_code}
use Rattle.placing.specs.Effects.{plain_all, relink, link_at, positions_of}
use Rattle.placing.proofs.WordLaws.{clash_cons}

-- ---- a position does not move when the table grows

position_new : (x : ℕ) (t : List Symbol) → position_of x (mention x t) ≡ position_of x t
unfolding position_of mention
position_new x [] = rw (eqb_same x)
position_new x (s ∷ t) =
    cond_cases (λ r. position_of x r ≡ position_of x (s ∷ t)) (name_is x s) _ _ (λ _. refl) (λ e. rw (e, position_new x t))

position_stays : (x y : ℕ) (t : List Symbol) → is_symbol x t ≡ true → position_of x (mention y t) ≡ position_of x t
unfolding position_of mention is_symbol any
position_stays x y [] h = never h refl
position_stays x y (s ∷ t) h =
    cond_cases (λ r. position_of x r ≡ position_of x (s ∷ t)) (name_is y s) _ _ (λ _. refl) (λ _. go (name_is x s) h (position_stays x y t))
  where
    go : (b : Bool) → (b || is_symbol x t) ≡ true → (is_symbol x t ≡ true → position_of x (mention y t) ≡ position_of x t) →
        cond b 0 (position_of x (mention y t) + 1) ≡ cond b 0 (position_of x t + 1)
    go true h f = refl
    go false h f = ap (λ k. k + 1) (f h)

positions_stay : (x : ℕ) (xs : List ℕ) (t : List Symbol) → is_symbol x t ≡ true → position_of x (mention_all xs t) ≡ position_of x t
unfolding mention_all
positions_stay x [] t h = refl
positions_stay x (y ∷ xs) t h =
    positions_stay x xs (mention y t) (symbol_mention x y t ∙ rw h (or-true (eqb y x))) ∙ position_stays x y t h

pub positions_map : (xs : List ℕ) (t : List Symbol) → positions_of xs t ≡ map (λ x. position_of x (mention_all xs t)) xs
unfolding positions_of mention_all
positions_map [] t = refl
positions_map (x ∷ xs) t =
    let there : is_symbol x (mention x t) ≡ true = symbol_mention x x t ∙ rw (eqb_same x) in
    ap₂ ◌∷◌ (sym (positions_stay x xs (mention x t) there ∙ position_new x t)) (positions_map xs (mention x t))

-- what stands at index k, for the externals of a module that joined
module _ (xs : List ℕ) (t : List Symbol) (at : List ℕ) (e : take (length xs) at ≡ positions_of xs t) (k : ℕ) (h : k < length xs) where
  pub position_at : get_or at k 0 ≡ position_of (get_or xs k 0) (mention_all xs t)
  position_at =
      sym (get_or-take (length xs) at k 0 h)
      ∙ ap (λ l. get_or l k 0) (e ∙ positions_map xs t)
      ∙ map_at xs k h (λ x. position_of x (mention_all xs t))
    where
      map_at : (xs : List ℕ) (k : ℕ) → k < length xs → (f : ℕ → ℕ) → get_or (map f xs) k 0 ≡ f (get_or xs k 0)
      map_at [] k h f = absurd (not-suc-le-zero h)
      map_at (x ∷ xs) zero h f = refl
      map_at (x ∷ xs) (suc k) h f = map_at xs k (le_of_suc-le-suc h) f

  pub position_there : get_or at k 0 < length (mention_all xs t)
  unfolding any
  position_there =
      let x : ℕ = get_or xs k 0 in
      let there : is_symbol x (mention_all xs t) ≡ true = symbol_mention_all x xs t ∙ rw (any_here xs k h) in
      subst (λ p. p < length (mention_all xs t)) (sym position_at) (position_below x (mention_all xs t) there)
    where
      any_here : (xs : List ℕ) (k : ℕ) → k < length xs → any (eqb (get_or xs k 0)) xs ≡ true
      any_here [] k h = absurd (not-suc-le-zero h)
      any_here (x ∷ xs) zero h = rw (eqb_same x)
      any_here (x ∷ xs) (suc k) h = rw (any_here xs k (le_of_suc-le-suc h)) (or-true (eqb (get_or xs k 0) x))

-- ---- laid, then linked

length_plain : (base : ℕ) (cs : List Code) (ws : List Word) → length (plain_all base cs ws) ≡ length ws
unfolding plain_all
length_plain base [] ws = refl
length_plain base (c ∷ cs) ws = length_plain base cs (set ws _ _) ∙ length-set ws _ _

-- a word at an address that none of the others has
set_apart : (base : ℕ) (cs : List Code) (ws : List Word) → clash base cs ws ≡ false → (a : ℕ) →
    is_placed (get_or ws a unplaced) ≡ true → (vs : List Word) (w : Word) →
    set (plain_all base cs vs) a w ≡ plain_all base cs (set vs a w)
unfolding plain_all clash
set_apart base [] ws h a p vs w = refl
set_apart base (c ∷ cs) ws h a p vs w =
    let b : ℕ = base + c.address in
    let q = or_off (is_placed (get_or ws b unplaced)) (clash base cs (set ws b (plain 0))) h in
    let other : a ≢ b = λ e. never p (ap (λ k. is_placed (get_or ws k unplaced)) e ∙ q.0) in
    set_apart base cs (set ws b (plain 0)) q.1 a
    (ap is_placed (get_or-set_other ws b a (plain 0) unplaced other) ∙ p)
    (set vs b (plain c.word.text))
    w
    ∙ ap (plain_all base cs) (set_comm vs b a (plain c.word.text) w (λ e. other (sym e)))

-- the first word once more, when all are laid
set_again : (base : ℕ) (cs : List Code) (ws : List Word) (a : ℕ) (v w : Word) → is_placed v ≡ true →
    clash base cs (set ws a v) ≡ false → set (plain_all base cs (set ws a v)) a w ≡ plain_all base cs (set ws a w)
set_again base cs ws a v w p h = go (ltb a (length ws)) refl
  where
    go : (b : Bool) → ltb a (length ws) ≡ b → set (plain_all base cs (set ws a v)) a w ≡ plain_all base cs (set ws a w)
    go true e =
        set_apart base cs (set ws a v) h a
        (ap is_placed (get_or-set_same ws a v unplaced (ltb-true a (length ws) e)) ∙ p)
        (set ws a v)
        w
        ∙ ap (plain_all base cs) (set-set ws a v w)
    go false e =
        let out : length ws ≤ a = ltb-false a (length ws) e in
        set_out (plain_all base cs (set ws a v)) a w (omega (arith, length_plain base cs (set ws a v), length-set ws a v))
        ∙ ap (plain_all base cs) (set_out ws a v out ∙ sym (set_out ws a w out))

clash_rest : (base : ℕ) (c : Code) (cs : List Code) (ws : List Word) (w : Word) → is_placed w ≡ true →
    clash base (c ∷ cs) ws ≡ false → clash base cs (set ws (base + c.address) w) ≡ false
clash_rest base c cs ws w p h =
    let i : ℕ = base + c.address in
    (or_off (is_placed (get_or ws i unplaced)) (clash base cs (set ws i w)) (sym (clash_cons base c cs ws w p) ∙ h)).1

module _ (base : ℕ) (xs : List ℕ) (t : List Symbol) (at : List ℕ)
    (is : (k : ℕ) → k < length xs → get_or at k 0 ≡ position_of (get_or xs k 0) t) where
  -- one word linked, over the others laid
  relink_is : (cs : List Code) (ws : List Word) (a text : ℕ) (r : Relocation) → bad_argument (length xs) r ≡ false →
      clash base cs (set ws a (plain text)) ≡ false →
      relink at a text r (plain_all base cs (set ws a (plain text))) ≡ plain_all base cs (set ws a (linked xs t text r))
  unfolding relink linked bad_argument
  relink_is cs ws a text Plain b h = refl
  relink_is cs ws a text (External k) b h =
      let q = or_off (eqb k 0) (ltb (length xs) k) b in
      let Some_number = eqb-false k 0 q.0 in
      let inside : k - 1 < length xs = omega (arith, Some_number, ltb-false (length xs) k q.1) in
      set_again base cs ws a (plain text) (refers text (get_or at (k - 1) 0)) refl h
      ∙ ap (λ p. plain_all base cs (set ws a (refers text p))) (is (k - 1) inside)
  relink_is cs ws a text (Unread type) b h = refl

  linked_placed : (text : ℕ) (r : Relocation) → is_placed (linked xs t text r) ≡ true
  unfolding linked
  linked_placed text Plain = refl
  linked_placed text (External k) = refl
  linked_placed text (Unread type) = refl

  pub link_laid : (cs : List Code) (ws : List Word) → clash base cs ws ≡ false → any (bad_code (length xs)) cs ≡ false →
      link_at base at cs (plain_all base cs ws) ≡ put_all base xs t cs ws
  unfolding link_at plain_all put_all
  link_laid [] ws h b = refl
  link_laid (c ∷ cs) ws h b =
      let a : ℕ = base + c.address in
      let text = c.word.text in
      let w = linked xs t text c.word.relocation in
      let laid = clash_rest base c cs ws (plain text) refl h in
      let linked_too = clash_rest base c cs ws w (linked_placed text c.word.relocation) h in
      ap (link_at base at cs) (relink_is cs ws a text c.word.relocation (none_first (bad_code (length xs)) c cs b) laid)
      ∙ link_laid cs (set ws a w) linked_too (none_rest (bad_code (length xs)) c cs b)

-- Going over the parts that stand in cells.
use Prim.Native.Nat.{ℕ, ◌≤◌}
use native.Mathlib.Omega.{arith}
use mathlib.Core.Bool.{Bool, true, false, cond, ◌||◌}
use mathlib.Core.List.{List, [], ◌∷◌, map}
use mathlib.Core.Path.{◌≡◌, refl, sym, ap, ◌∙◌}
use denote.Param.Members.{Mut}
use lib.ListN.{length}
use Rattle.std.specs.Fn.{Called}
use Rattle.std.specs.Iterator.{ChecksAny, YieldsFirst}
use Rattle.std.specs.List.{list_any}
use Rattle.std.proofs.lemmas.Iterator.Search.{any_from_yields_List}
use Rattle.std.proofs.lemmas.Iterator.Consumers.{YieldsList-from_first}
use Rattle.rules.specs.Placing.{entry_name}
use Rattle.rules.specs.declared.line.Entry.{Entry}
use Rattle.rules.specs.declared.reading.Part.{Part}
use Rattle.tables.specs.declared.iter.PartCells.{PartCells}
use Rattle.tables.specs.declared.iter.Parts.{Parts}
use Rattle.tables.specs.Tables.{part_of, parts_of}
use Rattle.tables.specs.Heads.{names_in, is_entry, entry_of}
use Rattle.tables.specs.Iter.{pairs_of, parts_left, part_at}
use Rattle.tables.proofs.HeadLaws.{entries_cons}

-- the same parts
pub pairs_are : (cells : List ℕ) → map part_at (pairs_of cells) ≡ parts_of cells
unfolding parts_of pairs_of
pairs_are [] = refl
pairs_are (h ∷ []) = refl
pairs_are (h ∷ b ∷ cells) = ap (λ ps. part_of h b ∷ ps) (pairs_are cells)

-- no more than the cells
pub pairs_few : (cells : List ℕ) → length (pairs_of cells) ≤ length cells
unfolding pairs_of
pairs_few [] = omega arith
pairs_few (h ∷ []) = omega arith
pairs_few (h ∷ b ∷ cells) = omega (arith, pairs_few cells)

-- what `any` over the parts answers, of a closure that computes a test
pub any_part : {F : Type 0} {g : Mut F (PartCells × Unit {0}) Bool} {f : F} {r : Bool} (test : PartCells → Bool) (s u : Parts)
    → ChecksAny (YieldsFirst parts_left) g s f r u
    → ((x : PartCells) (b : Bool) (q : F) → Called g f (x, tt) b q → (q ≡ f) × (b ≡ test x))
    → r ≡ list_any test (parts_left s)
any_part test s u ran called = any_from_yields_List test u _ _ ran (YieldsList-from_first (λ x. x) parts_left _ refl) called

-- a test of a list of parts, which looks whether p holds of one of them
pub some_part : (f : List Part → Bool) (p : PartCells → Bool) → f [] ≡ false
    → ((x : PartCells) (ps : List Part) → f (part_at x ∷ ps) ≡ (p x || f ps))
    → (xs : List PartCells) → list_any p xs ≡ f (map part_at xs)
some_part f p z s [] = sym z
some_part f p z s (x ∷ xs) = ap (λ r. p x || r) (some_part f p z s xs) ∙ sym (s x (map part_at xs))

-- the names of the entries
pub names_cons : (x : PartCells) (ps : List Part)
    → names_in (part_at x ∷ ps) ≡ cond (is_entry x.head) (x.body ∷ names_in ps) (names_in ps)
unfolding entry_of
names_cons x ps = ap (map entry_name) (entries_cons x.head x.body ps) ∙ go (is_entry x.head) (entry_of x.head x.body) _
  where
    go : (b : Bool) (e : Entry) (es : List Entry) →
        map entry_name (cond b (e ∷ es) es) ≡ cond b (e.name ∷ map entry_name es) (map entry_name es)
    go true e es = refl
    go false e es = refl

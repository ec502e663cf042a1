-- The reading of lines, taken apart: what it comes to, and what it adds to the items, each by itself and from the first line on.
use Prim.Native.Nat.{ℕ, ◌+◌}
use mathlib.Core.Bool.{Bool, true, false}
use mathlib.Core.List.{List, [], ◌∷◌, ◌++◌, append_assoc, append-nil}
use mathlib.Core.Path.{◌≡◌, refl, sym, ap, ◌∙◌}
use Rattle.rules.specs.Text.{lines_of}
use Rattle.rules.specs.Reading.{at_start, step_at, Module, Item, free, section, module_at, ReadSoFar, read_so_far, unread, module_done, stepped, if_complete, read_line_over, read_lines, read_lines_over, at_end, ended, reading_of, reading_over, items_of, items_over, Reading, Complete, Stopped}
use Rattle.rules.specs.declared.reading.Mode.{Mode}
use Rattle.rules.specs.declared.reading.Part.{Part}
use Rattle.rules.specs.declared.reading.Step.{Step}
use Rattle.rules.specs.declared.reading.Step.TheVariants.{Stop, Next, Add, CloseModule, CloseSection}

-- ---- the two, each by itself

-- what the lines from line n on come to, where the reading stands at m
unfoldable pub on_step : ℕ → Step → (Mode → Reading) → Reading
on_step n (Stop k c) go = Stopped k n c
on_step n (Next m) go = go m
on_step n (Add m p) go = go m
on_step n (CloseModule m line) go = go m
on_step n (CloseSection m line) go = go m

unfoldable pub read_from : ℕ → Mode → List (List ℕ) → Reading
read_from n m [] = at_end n m
read_from n m (l ∷ ls) = on_step n (step_at n m l) (λ m'. read_from (n + 1) m' ls)

-- what they add to the items, after the parts of the open module and the modules of the open section
unfoldable pub closed : Bool → Module → Mode → List Module → (Mode → List Part → List Module → List Item) → List Item
closed true md m ms go = go m [] (ms ++ (md ∷ []))
closed false md m ms go = free md ∷ go m [] ms

unfoldable pub gather : Step → List Part → List Module → (Mode → List Part → List Module → List Item) → List Item
gather (Stop k c) ps ms go = []
gather (Next m) ps ms go = go m ps ms
gather (Add m p) ps ms go = go m (ps ++ (p ∷ [])) ms
gather (CloseModule m line) ps ms go = closed m.section.inside (module_at line ps) m ms go
gather (CloseSection m line) ps ms go = section line ms ∷ go m [] []

unfoldable pub items_from : ℕ → Mode → List Part → List Module → List (List ℕ) → List Item
items_from n m ps ms [] = []
items_from n m ps ms (l ∷ ls) = gather (step_at n m l) ps ms (λ m' ps' ms'. items_from (n + 1) m' ps' ms' ls)

-- ---- the fold is both

-- a reading that has stopped stays as it is
stays :
    (ls : List (List ℕ)) (n : ℕ) (m : Mode) (ps : List Part) (ms : List Module) (is : List Item) (k l c : ℕ)
    → read_lines (read_so_far n m ps ms is (Stopped k l c)) ls ≡ read_so_far n m ps ms is (Stopped k l c)
unfolding read_lines_over read_line_over if_complete
stays [] n m ps ms is k l c = refl
stays (x ∷ ls) n m ps ms is k l c = stays ls n m ps ms is k l c

-- one line, where the law holds of the lines behind it
module _
    (ls : List (List ℕ)) (n : ℕ) (m : Mode) (ps : List Part) (ms : List Module) (is : List Item)
    (rest :
    (m' : Mode) (ps' : List Part) (ms' : List Module) (is' : List Item)
    → ended (read_lines (read_so_far (n + 1) m' ps' ms' is' Complete) ls) ≡ read_from (n + 1) m' ls) where
  member_reading :
      (t : Bool) (m' : Mode) (md : Module)
      → ended (read_lines (module_done (read_so_far n m ps ms is Complete) t m' md) ls) ≡ read_from (n + 1) m' ls
  unfolding module_done
  member_reading true m' md = rest m' [] (ms ++ (md ∷ [])) is
  member_reading false m' md = rest m' [] ms (is ++ (free md ∷ []))

  step_reading :
      (a : Step)
      → ended (read_lines (stepped (read_so_far n m ps ms is Complete) a) ls) ≡ on_step n a (λ m'. read_from (n + 1) m' ls)
  unfolding stepped on_step if_complete
  step_reading (Stop k c) = ap ended (stays ls n m ps ms is k n c)
  step_reading (Next m') = rest m' ps ms is
  step_reading (Add m' p) = rest m' (ps ++ (p ∷ [])) ms is
  step_reading (CloseModule m' line) = member_reading m'.section.inside m' (module_at line ps)
  step_reading (CloseSection m' line) = rest m' [] [] (is ++ (section line ms ∷ []))

fold_reading :
    (ls : List (List ℕ)) (n : ℕ) (m : Mode) (ps : List Part) (ms : List Module) (is : List Item)
    → ended (read_lines (read_so_far n m ps ms is Complete) ls) ≡ read_from n m ls
unfolding read_lines_over read_line_over if_complete read_from
fold_reading [] n m ps ms is = refl
fold_reading (l ∷ ls) n m ps ms is = step_reading ls n m ps ms is (fold_reading ls (n + 1)) (step_at n m l)

module _
    (ls : List (List ℕ)) (n : ℕ) (m : Mode) (ps : List Part) (ms : List Module) (is : List Item)
    (rest :
    (m' : Mode) (ps' : List Part) (ms' : List Module) (is' : List Item)
    → (read_lines (read_so_far (n + 1) m' ps' ms' is' Complete) ls).items ≡ is' ++ items_from (n + 1) m' ps' ms' ls) where
  abbrev more : Mode → List Part → List Module → List Item
  more m' ps' ms' = items_from (n + 1) m' ps' ms' ls

  -- one item more
  added :
      (i : Item) (m' : Mode) (ms' : List Module)
      → (read_lines (read_so_far (n + 1) m' [] ms' (is ++ (i ∷ [])) Complete) ls).items ≡ is ++ i ∷ more m' [] ms'
  added i m' ms' = rest m' [] ms' (is ++ (i ∷ [])) ∙ append_assoc is (i ∷ []) (items_from (n + 1) m' [] ms' ls)

  member_items :
      (t : Bool) (m' : Mode) (md : Module)
      → (read_lines (module_done (read_so_far n m ps ms is Complete) t m' md) ls).items ≡ is ++ closed t md m' ms more
  unfolding module_done closed
  member_items true m' md = rest m' [] (ms ++ (md ∷ [])) is
  member_items false m' md = added (free md) m' ms

  step_items :
      (a : Step)
      → (read_lines (stepped (read_so_far n m ps ms is Complete) a) ls).items ≡ is ++ gather a ps ms more
  unfolding stepped gather
  step_items (Stop k c) = ap (λ (r : ReadSoFar). r.items) (stays ls n m ps ms is k n c) ∙ sym (append-nil is)
  step_items (Next m') = rest m' ps ms is
  step_items (Add m' p) = rest m' (ps ++ (p ∷ [])) ms is
  step_items (CloseModule m' line) = member_items m'.section.inside m' (module_at line ps)
  step_items (CloseSection m' line) = added (section line ms) m' []

fold_items :
    (ls : List (List ℕ)) (n : ℕ) (m : Mode) (ps : List Part) (ms : List Module) (is : List Item)
    → (read_lines (read_so_far n m ps ms is Complete) ls).items ≡ is ++ items_from n m ps ms ls
unfolding read_lines_over read_line_over if_complete items_from
fold_items [] n m ps ms is = sym (append-nil is)
fold_items (l ∷ ls) n m ps ms is = step_items ls n m ps ms is (fold_items ls (n + 1)) (step_at n m l)

pub reading_lines : (file : List ℕ) → reading_of file ≡ read_from 1 at_start (lines_of file)
unfolding reading_over unread
reading_lines file = fold_reading (lines_of file) 1 at_start [] [] []

pub items_lines : (file : List ℕ) → items_of file ≡ items_from 1 at_start [] [] (lines_of file)
unfolding items_over unread
items_lines file = fold_items (lines_of file) 1 at_start [] [] []

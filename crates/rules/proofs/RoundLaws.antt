-- The rounds that an accepted load reports: "at most modules taken plus sections".
use Prim.Native.Nat.{ℕ, ◌+◌, ◌≤◌}
use native.Mathlib.Omega.{arith}
use mathlib.Core.Bool.{true}
use mathlib.Core.List.{List, [], ◌∷◌}
use mathlib.Core.Path.{◌≡◌}
use Rattle.rules.specs.Reading.{Item, free, section, items_of}
use Rattle.rules.specs.State.{State}
use Rattle.rules.specs.Load.{walking, accepted, place, takes, searched, Progress, progress, walk_item, walk_items, taken_at, taken_in, sections_at, sections_in}
use Rattle.rules.specs.Calls.{holding, load}
use Rattle.rules.proofs.SearchLaws.{search_rounds_most}
use Rattle.rules.proofs.WalkLaws.{section_accepted, items_accepted, load_accepted}

-- an item adds at most the modules it takes, and one where it is a section
item_rounds : (p : Progress) (i : Item) → accepted (walk_item p i).walk ≡ true →
    (walk_item p i).rounds ≤ p.rounds + taken_at p.walk i + sections_at i
unfolding walk_item taken_at sections_at searched
item_rounds p (free m) h = omega arith
item_rounds p (section line ms) h =
    rw (section_accepted p line ms h).1 (omega (arith, search_rounds_most takes place ms p.walk))

items_rounds : (p : Progress) (is : List Item) → accepted (walk_items p is).walk ≡ true →
    (walk_items p is).rounds ≤ p.rounds + taken_in p is + sections_in is
unfolding walk_items taken_in sections_in
items_rounds p [] h = omega arith
items_rounds p (i ∷ is) h =
    omega (arith, items_rounds (walk_item p i) is h, item_rounds p i (items_accepted (walk_item p i) is h))

-- "A load reports its rounds, summed over its sections [..]; they are at most modules taken plus sections."
pub load_rounds : (s : State) (file : List ℕ) → (load (holding s) true file).answer.number ≡ 0 →
    (load (holding s) true file).answer.rounds
    ≤ taken_in (progress (walking s) 0) (items_of file) + sections_in (items_of file)
load_rounds s file done =
    let h = load_accepted s file done in
    rw h.1 (omega (arith, items_rounds (progress (walking s) 0) (items_of file) h.0))

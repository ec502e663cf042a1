-- The candidates of a section: the flags of the modules that enter a name which stands undefined.
use Rattle.std.specs.Prelude.{ℕ, ◌-◌, ◌<◌, Bool, true, false, List, ◌≢◌, ◌≡◌, get_or}
use Rattle.rules.specs.Load.{is_needed}
use Rattle.rules.specs.declared.answer.Refusal.{Refusal}
use Rattle.state.specs.Layout.{decode}
use Rattle.index.specs.Index.{named, owner_at}
use Rattle.search.specs.declared.library.Library.{Library}
use Rattle.search.specs.Libraries.{module_of, LibraryOwns}

-- the flags of before stay set, and so is that of each module that enters a name which passes the test
pub record Marked (parts index : List ℕ) (p : ℕ → Bool) (before after : List Bool) : Type 0 where
  pub kept : (i : ℕ) → get_or after i false ≡ false → get_or before i false ≡ false
  pub told : (y : ℕ) → p y ≡ true → named parts index y ≢ 0 → get_or after (owner_at index (named parts index y - 1)) false ≡ true

-- in a walk that goes on, a module whose flag is clear is not needed, and every name of the section leads to its module
pub record Candidates (l : Library) (refusal : Refusal) (cells : List ℕ) (candidates : List Bool) : Type 0 where
  pub owns : refusal.number ≡ 0 → LibraryOwns l
  pub unneeded :
      refusal.number ≡ 0 → (i : ℕ) → i < l.section.count → get_or candidates i false ≡ false
      → is_needed (decode cells) (module_of l i) ≡ false

-- Two lookups of a name by one order, in tables that agree on the names that are read.
use Prim.Native.Nat.{ℕ}
use mathlib.Core.List.{List}
use mathlib.Core.Path.{◌≡◌, sym, ◌∙◌}
use Rattle.rules.specs.declared.lookup.Lookup.{Lookup}
use Rattle.order.specs.Order.{looked}
use Rattle.order.proofs.OrderedLaws.{read_alone}
use Rattle.customers.specs.Words.{AgreeOnRead}

pub same_lookup : (cells other order : List ℕ) (x : ℕ) {q r : Lookup} → AgreeOnRead cells other order x → q ≡ looked cells order x → r ≡ looked other order x → q ≡ r
same_lookup cells other order x a first second = first ∙ read_alone cells other order x a.count a.names ∙ sym second

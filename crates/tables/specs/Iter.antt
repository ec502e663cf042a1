-- The parts that stand in cells, as going over them gives them.
use Rattle.std.specs.Prelude.{ℕ, List, [], ◌∷◌, map}
use Rattle.rules.specs.declared.reading.Part.{Part}
use Rattle.tables.specs.Tables.{part_of}
use Rattle.tables.specs.declared.iter.PartCells.{PartCells}
use Rattle.tables.specs.declared.iter.Parts.{Parts}

abbrev pub cells_pair : ℕ → ℕ → PartCells
cells_pair head body = record { head = head; body = body }

-- two cells a part
unfoldable pub pairs_of : List ℕ → List PartCells
pairs_of [] = []
pairs_of (head ∷ []) = []
pairs_of (head ∷ body ∷ cells) = cells_pair head body ∷ pairs_of cells

-- the cells of those that are left
abbrev pub parts_left : Parts → List PartCells
parts_left p = pairs_of p.cells.now

-- the part of two cells
abbrev pub part_at : PartCells → Part
part_at p = part_of p.head p.body

-- the parts that are left
abbrev pub parts_in : Parts → List Part
parts_in p = map part_at (parts_left p)

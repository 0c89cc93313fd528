-- A cell of rows that is lent.
use Rattle.std.specs.Prelude.{◌≡◌, ◌==◌, ◌∷◌, [], ℕ, List, if◌then◌else◌, slice_set, refl}
use Rattle.std.specs.Borrow.{Fml, Lends, MutBor, RattleType}
use Rattle.cell_arena.specs.CellRecord.{CellRecord, anchor_with, fresh, owner_of, nth_of}
use Rattle.cell_arena.specs.Rows.{Rows, cells_of, rows_of}
use Rattle.cell_arena.specs.contracts.cell.Cell as cell
use Rattle.cell_arena.specs.contracts.cell.Row as row
use Rattle.cell_arena.specs.contracts.rows.CellRows as arena

-- rows with a cell changed
abbrev pub with_cell : {S I R : Type 0} → Rows S I R → ℕ → CellRecord S I R → Rows S I R
with_cell a index c =
    if index == 0 then record a { anchor = c }
    else record a {
      rows = slice_set a.rows (owner_of (rows_of a) index)
          (slice_set (cells_of a (owner_of (rows_of a) index)) (nth_of (rows_of a) index) c);
    }

module _ (S I R : RattleType) where
  -- a row ends with its nth cell set to the last value behind r
  abbrev pub LendsNth : MutBor (List (CellRecord S.Denot I.Denot R.Denot)) → ℕ → MutBor (CellRecord S.Denot I.Denot R.Denot) → Fml
  LendsNth s nth r = Lends (row.the_row S I R) (cell.the_row S I R) s r (slice_set s.now nth)

  -- rows end with the cell at an index set to the last value behind r
  abbrev pub LendsCell : MutBor (Rows S.Denot I.Denot R.Denot) → ℕ → MutBor (CellRecord S.Denot I.Denot R.Denot) → Fml
  LendsCell s index r = Lends (arena.the_row S I R) (cell.the_row S I R) s r (with_cell s.now index)

-- the second cell of process 0 of one process has index 2
abbrev two : CellRecord ℕ ℕ ℕ → Rows ℕ ℕ ℕ
two c = record { row = 2; anchor = anchor_with 9 1; rows = (fresh 5 ∷ c ∷ []) ∷ [] }

with_second : (c d : CellRecord ℕ ℕ ℕ) → with_cell (two c) 2 d ≡ two d
with_second c d = refl

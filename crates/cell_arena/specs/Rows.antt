-- An arena whose cells are kept in rows, one for each process.
use Rattle.std.specs.Prelude.{◌≡◌, ◌==◌, ◌+◌, ◌*◌, ◌≤◌, ℕ, List, [], ◌∷◌, Option, None, Some}
use Rattle.std.specs.Prelude.{if◌then◌else◌, length, map, slice_get, slice_index_or, EachIndex, refl}
use Rattle.std.specs.List.{range_with_len}
use Rattle.cell_arena.specs.CellRecord.{CellRecord, fresh, anchor_with, owner_of, nth_of}
use Rattle.cell_arena.specs.Arena.{Arena}

pub record Rows (S I R : Type 0) : Type 0 where
  -- how many cells a row can have
  pub row : ℕ
  pub anchor : CellRecord S I R
  -- the cells of each process, in the order in which it made them
  pub rows : List (List (CellRecord S I R))

-- how many rows there are
abbrev pub rows_of : {S I R : Type 0} → Rows S I R → ℕ
rows_of a = length a.rows

-- the cells of a process
abbrev pub cells_of : {S I R : Type 0} → Rows S I R → ℕ → List (CellRecord S I R)
cells_of a p = slice_index_or a.rows p []

-- the cell at an index
abbrev pub cell_at : {S I R : Type 0} → Rows S I R → ℕ → Option (CellRecord S I R)
cell_at a index =
    if index == 0 then Some a.anchor
    else slice_get (cells_of a (owner_of (rows_of a) index)) (nth_of (rows_of a) index)

-- the arena that rows are
abbrev pub arena_of : {S I R : Type 0} → Rows S I R → Arena S I R
arena_of a = record {
  row = a.row;
  made = map length a.rows;
  cells = map (cell_at a) (range_with_len 0 (1 + a.row * rows_of a));
}

-- there are 1 to 64 rows, and none is longer than it can be, which is 4096 at most
pub record AreRows {S I R : Type 0} (a : Rows S I R) : Type 0 where
  pub rows : (1 ≤ rows_of a) × (rows_of a ≤ 64)
  pub row : a.row ≤ 4096
  pub made : (p : ℕ) → length (cells_of a p) ≤ a.row

-- no row has a cell
abbrev pub AreEmpty : {A : Type 0} → List (List A) → Type 0
AreEmpty rows = EachIndex rows (λ p. slice_index_or rows p [] ≡ [])

-- an anchor 9 with the row of process 0, which has two cells, and the empty one of process 1
arena_of_two : arena_of {S = ℕ} {I = ℕ} {R = ℕ}
    (record { row = 2; anchor = anchor_with 9 1; rows = (fresh 5 ∷ fresh 6 ∷ []) ∷ [] ∷ [] })
    ≡ record {
      row = 2;
      made = 2 ∷ 0 ∷ [];
      cells = Some (anchor_with 9 1) ∷ Some (fresh 5) ∷ None ∷ Some (fresh 6)
          ∷ None ∷ [];
    }
arena_of_two = refl

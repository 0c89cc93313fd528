-- An arena whose cells stand in one list, each at its index.
use Rattle.std.specs.Prelude.{◌≡◌, ◌*◌, ◌<◌, ◌≤◌, ℕ, List, [], ◌∷◌, Option, None, Some, IsSome, is_some}
use Rattle.std.specs.Prelude.{if◌then◌else◌, length, map, slice_index_or, refl}
use Rattle.cell_arena.specs.CellRecord.{CellRecord, fresh, anchor_with, owner_of, nth_of}
use Rattle.cell_arena.specs.Columns.{Reserved, blank}
use Rattle.cell_arena.specs.Arena.{Arena}

pub record Flat (S I R : Type 0) : Type 0 where
  -- how many cells a process can make
  pub row : ℕ
  -- how many each has made
  pub made : List ℕ
  -- what stands at each index, and the room; a cell that isn't made has no invocation
  pub columns : Reserved S I R

-- a cell, where it is made
abbrev pub made_cell : {S I R : Type 0} → CellRecord S I R → Option (CellRecord S I R)
made_cell c = if is_some c.inv then Some c else None

-- the cells that are made, the first of which is the anchor
abbrev pub made_cells : {S I R : Type 0} → List (CellRecord S I R) → List (Option (CellRecord S I R))
made_cells [] = []
made_cells (anchor ∷ cells) = Some anchor ∷ map made_cell cells

-- the arena that it is
abbrev pub arena_of : {S I R : Type 0} → Flat S I R → Arena S I R
arena_of a = record { row = a.row; made = a.made; cells = made_cells a.columns.cells }

-- what stands at an index
abbrev pub at : {S I R : Type 0} → Flat S I R → ℕ → CellRecord S I R
at a i = slice_index_or a.columns.cells i blank

-- how many cells the maker of the cell at an index has made
abbrev pub made_by_owner : {S I R : Type 0} → Flat S I R → ℕ → ℕ
made_by_owner a i = slice_index_or a.made (owner_of (length a.made) i) 0

-- there are 1 to 64 processes, whose rows are 4096 cells at most, and room for all of them; a cell is there where it is made, and nothing
-- else is
pub record IsFlat {S I R : Type 0} (a : Flat S I R) : Type 0 where
  pub processes : (1 ≤ length a.made) × (length a.made ≤ 64)
  pub row : a.row ≤ 4096
  pub made : (p : ℕ) → slice_index_or a.made p 0 ≤ a.row
  pub room : a.row * length a.made < a.columns.room
  pub anchor : 0 < length a.columns.cells
  pub there : (i : ℕ) → 0 < i → nth_of (length a.made) i < made_by_owner a i → IsSome (at a i).inv
  pub nothing : (i : ℕ) → 0 < i → made_by_owner a i ≤ nth_of (length a.made) i → at a i ≡ blank

-- an anchor 9, the first cell of process 0, and room for that of process 1
arena_of_two : arena_of {S = ℕ} {I = ℕ} {R = ℕ}
    (record { row = 1; made = 1 ∷ 0 ∷ []; columns = record { room = 3; cells = anchor_with 9 1 ∷ fresh 5 ∷ [] } })
    ≡ record { row = 1; made = 1 ∷ 0 ∷ []; cells = Some (anchor_with 9 1) ∷ Some (fresh 5) ∷ [] }
arena_of_two = refl

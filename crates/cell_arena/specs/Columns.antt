-- Cells that are kept in columns, one for each field.
use Rattle.std.specs.Prelude.{◌≡◌, ◌++◌, ◌-◌, ℕ, List, [], ◌∷◌, Option, None, Some, length, map, replicate, refl}
use Rattle.std.specs.Prelude.{slice_index_or, slice_set}
use Rattle.std.specs.List.{range_with_len}
use Rattle.cell_arena.specs.CellRecord.{CellRecord, fresh, anchor_with}

-- the columns
pub record Fields (S I R : Type 0) : Type 0 where
  pub inv : List (Option I)
  pub seq : List ℕ
  pub before : List (Option ℕ)
  pub after : List (Option ℕ)
  pub new : List (Option (S × Option R))

-- what stands where no cell is made
abbrev pub blank : {S I R : Type 0} → CellRecord S I R
blank = record { inv = None; seq = 0; before = None; after = None; new = None }

-- what stands at an index
abbrev pub cell_in : {S I R : Type 0} → Fields S I R → ℕ → CellRecord S I R
cell_in c i = record {
  inv = slice_index_or c.inv i None;
  seq = slice_index_or c.seq i 0;
  before = slice_index_or c.before i None;
  after = slice_index_or c.after i None;
  new = slice_index_or c.new i None;
}

-- what stands at each index
abbrev pub cells_in : {S I R : Type 0} → Fields S I R → List (CellRecord S I R)
cells_in c = map (cell_in c) (range_with_len 0 (length c.seq))

-- the columns are as long as one another
pub record AreEven {S I R : Type 0} (c : Fields S I R) : Type 0 where
  pub inv : length c.inv ≡ length c.seq
  pub before : length c.before ≡ length c.seq
  pub after : length c.after ≡ length c.seq
  pub new : length c.new ≡ length c.seq

-- cells, and for how many there is room
pub record Reserved (S I R : Type 0) : Type 0 where
  pub room : ℕ
  pub cells : List (CellRecord S I R)

-- with another cell at an index
abbrev pub with_cell : {S I R : Type 0} → Reserved S I R → ℕ → CellRecord S I R → Reserved S I R
with_cell c i x = record c { cells = slice_set c.cells i x }

-- filled up to a length, with places where no cell is made
abbrev pub filled : {S I R : Type 0} → Reserved S I R → ℕ → Reserved S I R
filled c len = record c { cells = c.cells ++ replicate (len - length c.cells) blank }

-- an anchor 9, and a cell of call 5
cells_in_two : cells_in {S = ℕ} {I = ℕ} {R = ℕ} (record {
  inv = None ∷ Some 5 ∷ [];
  seq = 1 ∷ 0 ∷ [];
  before = None ∷ None ∷ [];
  after = None ∷ None ∷ [];
  new = Some (9, None) ∷ None ∷ [];
})
    ≡ anchor_with 9 1 ∷ fresh 5 ∷ []
cells_in_two = refl

-- room for five cells, of which one is made; the fourth place is filled with what is before it
filled_four : filled {S = ℕ} {I = ℕ} {R = ℕ} (record { room = 5; cells = anchor_with 9 1 ∷ fresh 5 ∷ [] }) 4
    ≡ record { room = 5; cells = anchor_with 9 1 ∷ fresh 5 ∷ blank ∷ blank ∷ [] }
filled_four = refl

-- what is filled stays
filled_one : filled {S = ℕ} {I = ℕ} {R = ℕ} (record { room = 5; cells = anchor_with 9 1 ∷ fresh 5 ∷ [] }) 1
    ≡ record { room = 5; cells = anchor_with 9 1 ∷ fresh 5 ∷ [] }
filled_one = refl

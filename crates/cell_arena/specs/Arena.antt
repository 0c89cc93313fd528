-- What contracts see of an arena, whichever way its cells are kept.
use Rattle.std.specs.Prelude.{◌≡◌, ℕ, List, [], ◌∷◌, Option, None, Some, length, slice_index_or, refl}
use Rattle.cell_arena.specs.CellRecord.{CellRecord, fresh, anchor_with}

pub record Arena (S I R : Type 0) : Type 0 where
  -- how many cells a process can make in an era
  pub row : ℕ
  -- how many each process has made in this era
  pub made : List ℕ
  -- by index: the anchor at 0, the nth cell of an owner at 1 + nth * n + owner
  pub cells : List (Option (CellRecord S I R))

-- how many processes there are
abbrev pub processes_of : {S I R : Type 0} → Arena S I R → ℕ
processes_of a = length a.made

-- how many cells a process has made
abbrev pub made_of : {S I R : Type 0} → Arena S I R → ℕ → ℕ
made_of a p = slice_index_or a.made p 0

-- the cell at an index, where one is made
abbrev pub cell_of : {S I R : Type 0} → Arena S I R → ℕ → Option (CellRecord S I R)
cell_of a index = slice_index_or a.cells index None

-- an anchor 9; process 0 of two has made two cells, and process 1 none
abbrev sample : Arena ℕ ℕ ℕ
sample = record {
  row = 2;
  made = 2 ∷ 0 ∷ [];
  cells = Some (anchor_with 9 1) ∷ Some (fresh 5) ∷ None ∷ Some (fresh 6) ∷ None ∷ [];
}

processes_of_sample : processes_of sample ≡ 2
processes_of_sample = refl

made_of_sample : made_of sample 0 ≡ 2
made_of_sample = refl

anchor_of_sample : cell_of sample 0 ≡ Some (anchor_with 9 1)
anchor_of_sample = refl

second_of_sample : cell_of sample 3 ≡ Some (fresh 6)
second_of_sample = refl

none_of_sample : cell_of sample 2 ≡ None
none_of_sample = refl

past_sample : cell_of sample 5 ≡ None
past_sample = refl

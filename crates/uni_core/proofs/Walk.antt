-- The walk along the list to its last cell.
use Rattle.uni_core.proofs.Vocabulary.{Anchor, Invariant, IsSome, Name, None, Option, Sequential, Some, WorldParts, WorldOf, [], after_of, ap, arith, calls_in_era, cell_of, cells_from, enough, era_calls, last_cell, last_of, memory_of, named, option_map, option_map_or, processes_of, refl, suc, sum_below-bound, sym, world_of, zero, ℕ, ◌*◌, ◌+◌, ◌<◌, ◌∙◌, ◌∷◌, ◌≡◌, ◌≤◌}
use Rattle.uni_model.proofs.Chains.{cells_from-enough}

-- from a cell the last one is found within so many steps
abbrev pub LeadsToLast : {S I R : Type 0} → (w : WorldOf S I R) → (x : Name) → (rest : ℕ) → Type 0
LeadsToLast w x rest = last_cell w ≡ last_of x (cells_from rest w.memory x)

-- all calls that there can be are enough for the whole list
last_from_anchor : {S I R : Type 0} (object : Sequential S I R) (w : WorldOf S I R) (row : ℕ) → Invariant object w → ((p : ℕ) → calls_in_era w p ≤ row) → LeadsToLast w Anchor (w.n * row)
last_from_anchor object w row sound room =
    let all : sound.1 ≤ sound.0 Anchor + era_calls w = enough object w sound.0 sound.1 sound.2 in
    let each : era_calls w ≤ w.n * row = sum_below-bound w.n row (calls_in_era w) room in
    ap (last_of Anchor) (cells_from-enough w.memory sound.0 sound.1 sound.2.numbered (era_calls w) (w.n * row) Anchor all (omega arith))

-- the walk along the list, at the cell with this index
module _ {O S I R : Type 0} (now : WorldParts O S I R) (id : ℕ) where
  abbrev pub name : ℕ → Name
  name = named now.shared

  -- it starts at the anchor
  pub leads_at_first : (object : Sequential S I R) → Invariant object (world_of now) → ((p : ℕ) → calls_in_era (world_of now) p ≤ now.row) → IsSome (cell_of now.shared.cells 0) → id ≡ 0
      → ((rest : ℕ) × (0 + rest ≡ processes_of now.shared.cells * now.row) × LeadsToLast (world_of now) (name id) rest) × IsSome (cell_of now.shared.cells id)
  leads_at_first object sound room anchor is =
      rw is ((processes_of now.shared.cells * now.row, omega arith, last_from_anchor object (world_of now) now.row sound room), anchor)

  -- it ends where no cell is linked
  pub last_at_end : (o : Option ℕ) (rest : ℕ) → LeadsToLast (world_of now) (name id) rest
      → option_map name o ≡ after_of (memory_of now.shared) (name id) → o ≡ None
      → name id ≡ last_cell (world_of now)
  last_at_end o zero leads link none = sym leads
  last_at_end o (suc rest) leads link none =
      let last : after_of (memory_of now.shared) (name id) ≡ None = sym link ∙ ap (option_map name) none in
      sym (leads ∙ ap (λ x. last_of (name id) (option_map_or (λ y. y ∷ cells_from rest (memory_of now.shared) y) x [])) last)

  -- and goes on where one is
  pub leads_later : (o : Option ℕ) (y rest count j k : ℕ) → LeadsToLast (world_of now) (name id) rest
      → option_map name o ≡ after_of (memory_of now.shared) (name id) → o ≡ Some y
      → count + rest ≡ processes_of now.shared.cells * now.row → j ≡ processes_of now.shared.cells → k ≡ now.row → count < j * k
      → (fewer : ℕ) × (count + 1 + fewer ≡ processes_of now.shared.cells * now.row) × LeadsToLast (world_of now) (name y) fewer
  leads_later o y zero count j k leads link some sum processes row less = absurd (let many : j * k ≡ processes_of now.shared.cells * now.row = rw (processes, row) refl in omega arith)
  leads_later o y (suc rest) count j k leads link some sum processes row less =
      let later : after_of (memory_of now.shared) (name id) ≡ Some (name y) = sym link ∙ ap (option_map name) some in
      (rest, omega arith, leads ∙ ap (λ x. last_of (name id) (option_map_or (λ z. z ∷ cells_from rest (memory_of now.shared) z) x [])) later)

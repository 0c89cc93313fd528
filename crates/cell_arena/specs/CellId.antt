-- Where a cell is, by its index.
use Rattle.std.specs.Prelude.{◌≡◌, ◌<◌, ℕ}
use Rattle.cell_arena.specs.CellRecord.{owner_of, nth_of}
use Rattle.cell_arena.specs.declared.cell_id.Place.{Place}
use Rattle.cell_arena.specs.declared.cell_id.Place.TheVariants.{Anchor, Made}

-- the place of an index among n processes
abbrev pub IsPlaceOf : (n index : ℕ) → Place → Type 0
IsPlaceOf n index Anchor = index ≡ 0
IsPlaceOf n index (Made owner nth) = (0 < index) × (owner ≡ owner_of n index) × (nth ≡ nth_of n index)

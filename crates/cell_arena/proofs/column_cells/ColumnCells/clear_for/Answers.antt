use Rattle.cell_arena.proofs.Vocabulary.{IsSome, None, arith, length, length-replicate, made_cells, refl, rules, slice_index_or, ◌≡◌}
use Rattle.cell_arena.proofs.FlatArena.{HasOnlyAnchor-begun, IsFlat-begun, get_or-zero, some_and, there-is, there-within}
use Rattle.cell_arena.proofs.column_cells.ColumnCells.clear_for.Goals as goal

use Rattle.cell_arena.proofs.Vocabulary.{IsSome, None, arith, length, made_cells, rules, slice_index_or, ◌≡◌}
use Rattle.cell_arena.proofs.FlatArena.{HasOnlyAnchor-begun, IsFlat-begun, get_or-zero, some_and}
use Rattle.cell_arena.proofs.column_cells.ColumnCellsCells.clear_to.Goals as goal

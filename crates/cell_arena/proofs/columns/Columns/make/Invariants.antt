use Rattle.cell_arena.proofs.Vocabulary.{filled, length, ◌+◌, ◌<◌, ◌≡◌}
use Rattle.cell_arena.proofs.columns.Columns.make.Given as goal

abbrev pub invariant-loop : goal.invariant-loop
invariant-loop g l = record {
  filled_so_far : l.self ≡ filled l.initial.self l.counter;
  full : l.at + 1 < l.counter → l.counter ≡ length l.initial.self.cells;
}

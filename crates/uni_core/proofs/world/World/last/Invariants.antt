use Rattle.uni_core.proofs.Vocabulary.{IsSome, cell_of, name_in, world_of, ℕ, ◌*◌, ◌+◌, ◌≡◌}
use Rattle.uni_core.proofs.Walk.{LeadsToLast}
use Rattle.uni_core.proofs.world.World.last.Given as goal

abbrev pub invariant-loop : goal.invariant-loop
invariant-loop g l =
    ((rest : ℕ) × (l.counter + rest ≡ (world_of l.self).n * l.self.row) × LeadsToLast (world_of l.self) (name_in (world_of l.self) l.last) rest)
    × IsSome (cell_of l.self.shared.cells l.last)

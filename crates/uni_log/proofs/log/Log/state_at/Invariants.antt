use Rattle.uni_log.proofs.Vocabulary.{Anchor, IsSome, List, Name, cell_of, chain, name_in, seq_of, slice_get, world_of, ℕ, ◌+◌, ◌∷◌, ◌≡◌}
use Rattle.uni_log.proofs.Walk.{IsAlong}
use Rattle.uni_log.proofs.log.Log.state_at.Given as goal

abbrev pub invariant-loop : goal.invariant-loop
invariant-loop g l = record {
  there : IsSome (cell_of l.world.shared.cells l.at);
  rest : List Name;
  along : IsAlong (world_of l.world) (name_in (world_of l.world) l.at) (l.counter + seq_of (world_of l.world).memory Anchor) rest;
  whole : (j : ℕ) → slice_get (Anchor ∷ chain (world_of l.world)) (l.counter + j) ≡ slice_get (name_in (world_of l.world) l.at ∷ rest) j;
}

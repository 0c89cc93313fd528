use Rattle.uni_core.proofs.Vocabulary.{head_seq, world_of, ◌≡◌}
use Rattle.uni_model.specs.Frontier.{greatest_below}
use Rattle.uni_core.proofs.world.World.frontier.Given as goal

abbrev pub invariant-loop-p : goal.invariant-loop-p
invariant-loop-p g l = l.greatest ≡ greatest_below l.p (head_seq (world_of l.self).memory)

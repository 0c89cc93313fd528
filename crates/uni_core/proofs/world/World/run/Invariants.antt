use Rattle.uni_core.proofs.Vocabulary.{KeepsFixed, length, take, vec_capacity, world_of, ◌≡◌, ◌≤◌}
use Rattle.uni_core.proofs.Runs.{Leads}
use Rattle.uni_core.proofs.world.World.run.Given as goal

abbrev pub invariant-loop-command : goal.invariant-loop-command
invariant-loop-command g l = record {
  counted : length l.outcomes.items ≡ l.command-index;
  has_room : length l.commands ≤ vec_capacity l.outcomes;
  fixed : KeepsFixed l.fn.self l.self;
  leads : Leads (g.O.SeqObject.sequential l.fn.self.object) l.fn.self.row (world_of l.fn.self) (take l.command-index l.commands) l.outcomes.items (world_of l.self);
}

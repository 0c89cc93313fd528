use Rattle.std.proofs.Common.{◌≡◌, ◌≤◌, length, take, vec_capacity}
use Rattle.uni_record.proofs.Commanded.{Leads}
use Rattle.uni_record.proofs.recorded.Recorded.run.Given as goal

abbrev pub invariant-loop-command : goal.invariant-loop-command
invariant-loop-command g l = record {
  counted : length l.outcomes.items ≡ l.command-index;
  has_room : length l.commands ≤ vec_capacity l.outcomes;
  leads : Leads g.O.SeqObject.sequential l.fn.self (take l.command-index l.commands) l.outcomes.items l.self;
}

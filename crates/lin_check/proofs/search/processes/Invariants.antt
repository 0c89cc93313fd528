use Rattle.std.proofs.Common.{take, ◌<◌}
use Rattle.lin_check.proofs.Vocabulary.{All, process_of}
use Rattle.lin_check.proofs.search.processes.Given as goal

abbrev pub invariant-loop-event : goal.invariant-loop-event
invariant-loop-event g l = All (λ event. process_of event < l.n) (take l.event-index l.history)

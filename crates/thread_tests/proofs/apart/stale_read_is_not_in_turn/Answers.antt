use Rattle.thread_tests.proofs.InTurn.{stale_is_not_in_turn}
use Rattle.thread_tests.proofs.apart.stale_read_is_not_in_turn.Goals as goal

pub returns : goal.returns
returns c = stale_is_not_in_turn

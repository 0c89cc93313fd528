use Rattle.uni_words.proofs.Progressing.{keeps_bound, never_blocks}
use Rattle.uni_words.proofs.laws.every_call_is_wait_free.Goals as goal

pub returns-clause-never_blocks : goal.returns-clause-never_blocks
returns-clause-never_blocks g c o n row narrow e = never_blocks (g.O.WordObject.sequential o) n row narrow e

pub returns-clause-bound : goal.returns-clause-bound
returns-clause-bound g c o n row narrow e = keeps_bound (g.O.WordObject.sequential o) n row narrow e

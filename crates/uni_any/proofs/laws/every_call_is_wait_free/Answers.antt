use Rattle.uni_any.proofs.Progressing.{keeps_bound, never_blocks}
use Rattle.uni_any.proofs.laws.every_call_is_wait_free.Goals as goal

pub returns-clause-never_blocks : goal.returns-clause-never_blocks
returns-clause-never_blocks g c o n some most e = never_blocks g.O.SeqObject.sequential o n (some, most) e

pub returns-clause-bound : goal.returns-clause-bound
returns-clause-bound g c o n some most e = keeps_bound g.O.SeqObject.sequential o n (some, most) e

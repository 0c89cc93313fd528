use Rattle.uni_small.proofs.Progressing.{keeps_bound, never_blocks}
use Rattle.uni_small.proofs.laws.every_call_is_wait_free.Goals as goal

pub returns-clause-never_blocks : goal.returns-clause-never_blocks
returns-clause-never_blocks g c o sizes fits e = never_blocks (g.O.SmallObject.meaning o).object sizes fits.0.0 fits.0.4 fits.2 e

pub returns-clause-bound : goal.returns-clause-bound
returns-clause-bound g c o sizes fits e = keeps_bound (g.O.SmallObject.meaning o).object sizes fits.0.0 fits.0.4 fits.2 e

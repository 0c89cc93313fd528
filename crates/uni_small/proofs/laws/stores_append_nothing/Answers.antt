use Rattle.uni_small.proofs.Stores.{stores, writes}
use Rattle.uni_small.proofs.laws.stores_append_nothing.Goals as goal

pub returns-clause-argument : goal.returns-clause-argument
returns-clause-argument g c o sizes id k x st me single storing below calls = stores g.O.SmallObject.meaning o sizes id st me single k x storing below calls

pub returns-clause-buffer : goal.returns-clause-buffer
returns-clause-buffer g c o sizes id k x st me single writing room differs word = writes g.O.SmallObject.meaning o sizes id st me single k x writing room differs word

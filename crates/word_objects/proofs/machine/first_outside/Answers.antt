use Rattle.std.proofs.Common.{rules, tests, nat_le}
use Rattle.std.proofs.lemmas.Iterator.{YieldsList-from_slice}
use Rattle.std.proofs.lemmas.Iterator.Search.{position_from_yields_List}
use Rattle.word_objects.proofs.machine.first_outside.Goals as goal

pub returns : goal.returns
returns c = position_from_yields_List (nat_le c.args.bound) _ _ c.position.result c.position.ensures.ran (YieldsList-from_slice c.args.entries.now cc) (λ x b q k. search (rules, tests))

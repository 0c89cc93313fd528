use Rattle.std.proofs.Common.{rules, tests}
use Rattle.std.proofs.lemmas.Iterator.{YieldsList-from_slice, items_from_collect}
use Rattle.std.proofs.lemmas.Iterator.Consumers.{YieldsList-from_copied, YieldsList-from_filter}
use Rattle.judged_objects.specs.Sorted.{is_on}
use Rattle.judged_objects.proofs.sorted.on_side.Goals as goal

pub returns : goal.returns
returns g c =
    items_from_collect _ c.collect.ensures.ran
    (YieldsList-from_filter _ (λ item. is_on c.args.side (g.T.Keyed.key_of item) c.args.key)
    (YieldsList-from_copied (YieldsList-from_slice c.args.items.now cc)) c.filter.ensures.closure (λ x r q k. search (rules, tests)))

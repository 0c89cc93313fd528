use Rattle.signs.proofs.Vocabulary.{AreApartFrom, arith}
use Rattle.signs.proofs.Rest.{more_at, none}
use Rattle.signs.proofs.check.are_apart.Goals as goal

pub loop-span-preserved : goal.loop-span-preserved
loop-span-preserved c = λ rest. c.loop-span.invariant
    (more_at (AreApartFrom c.loop-span.end) c.args.spans.now c.loop-span.span-index (record { from = 0; to = 0 }) c.loop-span-test.true
    (omega arith, omega arith, rest))

pub returns : goal.returns
returns c = λ _. c.loop-span.invariant (none (AreApartFrom c.loop-span.end) c.args.spans.now c.loop-span.span-index c.loop-span-test.false tt)

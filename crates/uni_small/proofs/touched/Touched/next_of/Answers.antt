use Rattle.std.proofs.Common.{arith}
use Rattle.uni_small.proofs.touched.Touched.next_of.Goals as goal

pub returns-then-first-second-clause-between : goal.returns-then-first-second-clause-between
returns-then-first-second-clause-between c =
    λ j from below.
    (c.next-first.ensures.between j from below, c.next-second.ensures.between j from (let t = c.if-first-second.true in omega arith))

pub returns-else-first-second-clause-between : goal.returns-else-first-second-clause-between
returns-else-first-second-clause-between c =
    λ j from below.
    (c.next-first.ensures.between j from (let t = c.if-first-second.false in omega arith), c.next-second.ensures.between j from below)

use Rattle.told_order.proofs.Vocabulary.{arith, length-map, map}
use Rattle.told_order.proofs.Left.{next_below}
use Rattle.told_order.proofs.order.next_at.Goals as goal

pub returns-clause-none : goal.returns-clause-none
returns-clause-none g c none p call is =
    let inside = next_below (map (λ own. own.items) c.args.lists.now) c.args.made.now p call is in
    let many = length-map c.args.lists.now (λ own. own.items) in
    let over = c.loop-p-test.false in
    let end = c.loop-p.auto.p-end in
    c.loop-p.invariant p call (omega (arith, inside, many)) is

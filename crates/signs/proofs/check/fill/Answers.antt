use Rattle.signs.proofs.Vocabulary.{Fills, rules, ◌≡◌}
use Rattle.signs.proofs.Rest.{more, none}
use Rattle.signs.proofs.check.fill.Goals as goal

pub loop-shape-preserved : goal.loop-shape-preserved
loop-shape-preserved c = λ rest. c.loop-shape.invariant
    (more (Fills c.loop-shape.end c.args.to) c.args.shapes.now c.loop-shape.shape-index c.shape-item.result c.loop-shape-test.true c.shape-item.is (c.in-Some.ensures _ _ rest))

pub returns : goal.returns
returns c = λ same. let all : c.loop-shape.end ≡ c.args.to = search rules in c.loop-shape.invariant
    (none (Fills c.loop-shape.end c.args.to) c.args.shapes.now c.loop-shape.shape-index c.loop-shape-test.false all)

use Rattle.std.proofs.lemmas.List.Elements.{All-cons, All-nil}
use Rattle.signs.proofs.Vocabulary.{All, IsInView, IsTrue, rules}
use Rattle.signs.proofs.Rest.{more, none}
use Rattle.signs.proofs.view.cuts_none.Goals as goal

pub loop-shape-preserved : goal.loop-shape-preserved
loop-shape-preserved c =
    let P = IsInView c.args.left c.args.width c.args.height in
    let seen : IsTrue c.is_in_view.result = search rules in
    λ rest. c.loop-shape.invariant
    (more (All P) c.args.strip.now c.loop-shape.shape-index c.shape-item.result c.loop-shape-test.true c.shape-item.is (All-cons P _ _ (c.is_in_view.ensures seen) rest))

pub returns : goal.returns
returns c =
    let P = IsInView c.args.left c.args.width c.args.height in
    λ _. c.loop-shape.invariant (none (All P) c.args.strip.now c.loop-shape.shape-index c.loop-shape-test.false (All-nil P))

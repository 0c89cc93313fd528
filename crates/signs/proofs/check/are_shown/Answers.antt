use Rattle.signs.proofs.Vocabulary.{AreShown, List, Part, [], done, drop, length, map, meaning, places_shown, rules, ◌≤◌}
use Rattle.signs.proofs.Rest.{more, none}
use Rattle.signs.proofs.check.are_shown.Goals as goal

pub loop-shape-preserved : goal.loop-shape-preserved
loop-shape-preserved g c = λ rest. c.loop-shape.invariant
    (more (λ (l : List g.row.S.Denot). AreShown (places_shown c.args.layout.now) (map meaning (drop c.loop-shape.next c.args.parts.now)) (map g.S.Seen.seen l))
    c.args.shapes.now c.loop-shape.shape-index c.shape-item.result c.loop-shape-test.true c.shape-item.is (c.in-Some.ensures _ rest))

pub returns : goal.returns
returns g c = λ all. let past : length c.args.parts.now ≤ c.loop-shape.next = search rules in c.loop-shape.invariant
    (none (λ (l : List g.row.S.Denot). AreShown (places_shown c.args.layout.now) (map meaning (drop c.loop-shape.next c.args.parts.now)) (map g.S.Seen.seen l))
    c.args.shapes.now c.loop-shape.shape-index c.loop-shape-test.false
    (none (λ (l : List Part). AreShown (places_shown c.args.layout.now) (map meaning l) []) c.args.parts.now c.loop-shape.next past done))

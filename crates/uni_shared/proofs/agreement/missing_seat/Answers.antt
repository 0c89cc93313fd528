use Rattle.uni_shared.proofs.Vocabulary.{IfSome_then, arith, below_more, rules, seats_of, sym, ◌∙◌, ◌≡◌}
use Rattle.uni_shared.proofs.Closing.{IsLeast-missing, IsLeast-missing_own, IsMissing-none}
use Rattle.uni_shared.proofs.agreement.missing_seat.Goals as goal

pub loop-p-preserved : goal.loop-p-preserved
loop-p-preserved g c = below_more (λ q. seats_of q c.args.seats.now ≡ 1) c.loop-p.p c.loop-p.invariant (sym c.seats_of.ensures ∙ c.if-seats_of-ne1.false)

pub returns-then-seats_of-ne1-clause-least : goal.returns-then-seats_of-ne1-clause-least
returns-then-seats_of-ne1-clause-least g c =
    IsLeast-missing_own c.args.n c.args.seats.now c.loop-p.p c.loop-p-test.true (λ one. c.if-seats_of-ne1.true (c.seats_of.ensures ∙ one)) c.loop-p.invariant

pub returns-clause-each : goal.returns-clause-each
returns-clause-each g c = λ none q less. c.loop-p.invariant q (omega arith)

pub returns-clause-none : goal.returns-clause-none
returns-clause-none g c = λ none. IsMissing-none c.args.n c.args.seats.now (λ q less. c.loop-p.invariant q (omega arith)) (c.other_seat.ensures.none none)

pub returns-clause-least : goal.returns-clause-least
returns-clause-least g c =
    IfSome_then c.other_seat.result c.other_seat.ensures.least (IsLeast-missing c.args.n c.args.seats.now (λ q less. c.loop-p.invariant q (omega arith)))

pub loop-p-init : goal.loop-p-init
loop-p-init g c = search rules

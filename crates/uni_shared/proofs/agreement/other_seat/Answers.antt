use Rattle.uni_shared.proofs.Vocabulary.{All-more, arith, subst, sym, take, take_all, ◌+◌, ◌<◌, ◌∙◌}
use Rattle.uni_shared.proofs.Closing.{IsLeastOther, IsLeastOther-start, IsLeastOther-same, IsLeastOther-more, IsLeast-other}
use Rattle.uni_shared.proofs.Counting.{All-whole}
use Rattle.uni_shared.proofs.agreement.other_seat.Goals.{then-p-n, else-p-n}
use Rattle.uni_shared.proofs.agreement.other_seat.Goals as goal

pub loop-seat-init : goal.loop-seat-init
loop-seat-init g c = (λ none k d there. absurd (omega arith), IsLeastOther-start c.args.n c.args.seats.now)

pub loop-seat-preserved : goal.loop-seat-preserved
loop-seat-preserved g c =
    let item = c.seat-item.result in
    let own = c.process-p.ensures.value in
    elim c.if-p-n.branch [
      | then-p-n w ↦ (
        λ none. absurd (let some = w.least-is in cc),
        subst (IsLeastOther c.args.n (take (c.loop-seat.seat-index + 1) c.args.seats.now)) (sym w.least-is)
            (IsLeastOther-more c.args.n c.args.seats.now c.loop-seat.seat-index item c.loop-seat-test.true c.seat-item.is c.loop-seat.least c.loop-seat.invariant.1 (omega arith) w.lesser.result
            (let b = w.lesser.ensures.below in omega arith) w.lesser.ensures.below_found (rw own at w.lesser.ensures.either)),
      )
      | else-p-n w ↦ (
        λ none.
            let less : item.process < c.args.n = omega arith in
            All-more (λ s. s.process < c.args.n) c.args.seats.now c.loop-seat.seat-index item c.loop-seat-test.true (c.loop-seat.invariant.0 (sym w.least-is ∙ none)) (subst (λ s. s.process < c.args.n) c.seat-item.is less),
        subst (IsLeastOther c.args.n (take (c.loop-seat.seat-index + 1) c.args.seats.now)) (sym w.least-is)
            (IsLeastOther-same c.args.n c.args.seats.now c.loop-seat.seat-index item c.loop-seat-test.true c.seat-item.is c.loop-seat.least c.loop-seat.invariant.1 (omega arith)),
      )
    ]

pub returns-clause-only : goal.returns-clause-only
returns-clause-only g c = λ none. All-whole (λ s. s.process < c.args.n) c.args.seats.now c.loop-seat.seat-index c.loop-seat-test.false (c.loop-seat.invariant.0 none)

pub returns-clause-none : goal.returns-clause-none
returns-clause-none g c = λ none p past.
    let all = subst (λ l. IsLeastOther c.args.n l c.loop-seat.least) (take_all c.loop-seat.seat-index c.args.seats.now c.loop-seat-test.false) c.loop-seat.invariant.1 in
    all.before p past (λ m some. absurd (cc))

pub returns-clause-least : goal.returns-clause-least
returns-clause-least g c =
    IsLeast-other c.args.n c.args.seats.now c.loop-seat.least
    (subst (λ l. IsLeastOther c.args.n l c.loop-seat.least) (take_all c.loop-seat.seat-index c.args.seats.now c.loop-seat-test.false) c.loop-seat.invariant.1)

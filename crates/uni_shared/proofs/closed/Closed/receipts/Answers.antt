use Rattle.uni_shared.proofs.Vocabulary.{All-contains, Contains, Contains-get_or, SeatAgrees, ap, arith, seats_of, subst, sym, take_all, ◌<◌, ◌∙◌, ◌≡◌}
use Rattle.uni_shared.proofs.Counting.{Agrees-same}
use Rattle.uni_shared.proofs.closed.Closed.receipts.Goals as goal

pub returns-then-process-p-clause-seat : goal.returns-then-process-p-clause-seat
returns-then-process-p-clause-seat g c =
    let item = c.seat-item.result in
    let listed = subst (Contains c.deref-seat-items.result.now) (sym c.seat-item.is) (Contains-get_or c.deref-seat-items.result.now c.loop-seat.seat-index item c.loop-seat-test.true) in (
      item,
      subst (λ l. Contains l item) (c.deref-seat-items.ensures.value ∙ ap (λ v. v.seats) c.self.view_is) listed,
      sym c.process.ensures.value ∙ c.if-process-p.true,
      c.receipts.ensures,
    )

pub returns-then-process-p-clause-agree : goal.returns-then-process-p-clause-agree
returns-then-process-p-clause-agree g c =
    let item = c.seat-item.result in
    let listed = subst (Contains c.deref-seat-items.result.now) (sym c.seat-item.is) (Contains-get_or c.deref-seat-items.result.now c.loop-seat.seat-index item c.loop-seat-test.true) in
    let kept = subst (λ l. Contains l item) c.deref-seat-items.ensures.value listed in
    let agree = All-contains (SeatAgrees g.O.SeqObject.sequential c.self.inside.recorded) c.self.inside.seats.items item c.self.invariant.agree kept in
    let there = subst (λ v. SeatAgrees g.O.SeqObject.sequential v.recorded item) c.self.view_is agree in
    Agrees-same _ _ _ item.process c.args.p item.receipts c.receipts.result.now (sym c.process.ensures.value ∙ c.if-process-p.true) c.receipts.ensures there

pub unreachable-requires : goal.unreachable-requires
unreachable-requires g c =
    let below = subst (λ v. c.args.p < v.recorded.processes) (sym c.self.view_is) c.requires in
    let one = c.self.invariant.each c.args.p below in
    let all = take_all c.loop-seat.seat-index c.deref-seat-items.result.now c.loop-seat-test.false in
    let zero_there = subst (λ l. seats_of c.args.p l ≡ 0) (all ∙ c.deref-seat-items.ensures.value) c.loop-seat.invariant in
    let contradiction = sym zero_there ∙ one in omega arith

use Rattle.uni_shared.proofs.Vocabulary.{All-more, Contains, Contains-get_or, SeatAgrees, subst, sym, ◌≡◌}
use Rattle.uni_shared.proofs.Counting.{All-whole}
use Rattle.uni_shared.proofs.agreement.mismatch_of_process.Goals as goal

pub loop-seat-preserved : goal.loop-seat-preserved
loop-seat-preserved g c =
    All-more (λ s. s.process ≡ c.args.p → SeatAgrees g.O.SeqObject.sequential c.args.recorded.now s) c.args.seats.now c.loop-seat.seat-index c.seat-item.result c.loop-seat-test.true c.loop-seat.invariant
    (subst (λ s. s.process ≡ c.args.p → SeatAgrees g.O.SeqObject.sequential c.args.recorded.now s) c.seat-item.is (c.mismatch_of.ensures.none c.in-None.is))

pub returns-clause-none : goal.returns-clause-none
returns-clause-none g c = λ none. All-whole (λ s. s.process ≡ c.args.p → SeatAgrees g.O.SeqObject.sequential c.args.recorded.now s) c.args.seats.now c.loop-seat.seat-index c.loop-seat-test.false c.loop-seat.invariant

pub returns-in-Some-clause-first : goal.returns-in-Some-clause-first
returns-in-Some-clause-first g c =
    let item = c.seat-item.result in
    let listed = subst (Contains c.args.seats.now) (sym c.seat-item.is) (Contains-get_or c.args.seats.now c.loop-seat.seat-index item c.loop-seat-test.true) in
    (c.in-Some.ensures.first.0, (item, listed, c.in-Some.ensures.first.1))

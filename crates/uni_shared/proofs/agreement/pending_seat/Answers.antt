use Rattle.uni_shared.proofs.Vocabulary.{All-more, None, arith, subst, sym, take, take_all, world_of, ◌+◌, ◌∙◌, ◌≡◌}
use Rattle.uni_shared.proofs.Closing.{IsLeastBusy, IsLeastBusy-start, IsLeastBusy-same, IsLeastBusy-more, IsLeast-busy}
use Rattle.uni_shared.proofs.Counting.{All-whole, None-from_false}
use Rattle.uni_shared.proofs.agreement.pending_seat.Goals.{then-pending, else-pending}
use Rattle.uni_shared.proofs.agreement.pending_seat.Goals as goal

pub loop-seat-init : goal.loop-seat-init
loop-seat-init g c = (
  λ none k d there. absurd (omega arith),
  λ none. rw c.world.ensures at (c.pending-least.ensures.none.0 none),
  IsLeastBusy-start (world_of c.args.recorded.now.world) c.args.seats.now c.pending-least.result (rw c.world.ensures at c.pending-least.ensures.least) (λ none. rw c.world.ensures at (c.pending-least.ensures.none.0 none)),
)

pub loop-seat-preserved : goal.loop-seat-preserved
loop-seat-preserved g c =
    let item = c.seat-item.result in
    let w = world_of c.args.recorded.now.world in
    elim c.if-pending.branch [
      | then-pending v ↦ (
        λ none. absurd (let some = v.least-is in cc),
        λ none. absurd (let some = v.least-is in cc),
        subst (IsLeastBusy w c.args.seats.now (take (c.loop-seat.seat-index + 1) c.args.seats.now)) (sym v.least-is)
            (IsLeastBusy-more w c.args.seats.now c.loop-seat.seat-index item c.loop-seat-test.true c.seat-item.is c.loop-seat.least c.loop-seat.invariant.2 (c.pending.ensures.0 v.if-pending.true) v.lesser.result
            (let b = v.lesser.ensures.below in let p = v.process.ensures.value in omega arith) v.lesser.ensures.below_found (rw v.process.ensures.value at v.lesser.ensures.either)),
      )
      | else-pending v ↦ (
          let idle : item.pending ≡ None = None-from_false _ _ c.pending.ensures.1 v.if-pending.false in (
            λ none. All-more (λ s. s.pending ≡ None) c.args.seats.now c.loop-seat.seat-index item c.loop-seat-test.true (c.loop-seat.invariant.0 (sym v.least-is ∙ none))
                (subst (λ s. s.pending ≡ None) c.seat-item.is idle),
            λ none. c.loop-seat.invariant.1 (sym v.least-is ∙ none),
            subst (IsLeastBusy w c.args.seats.now (take (c.loop-seat.seat-index + 1) c.args.seats.now)) (sym v.least-is)
                (IsLeastBusy-same w c.args.seats.now c.loop-seat.seat-index item c.loop-seat-test.true c.seat-item.is c.loop-seat.least c.loop-seat.invariant.2 idle),
          )
          )
    ]

pub returns-clause-idle : goal.returns-clause-idle
returns-clause-idle g c = λ none. All-whole (λ s. s.pending ≡ None) c.args.seats.now c.loop-seat.seat-index c.loop-seat-test.false (c.loop-seat.invariant.0 none)

pub returns-clause-least : goal.returns-clause-least
returns-clause-least g c =
    let w = world_of c.args.recorded.now.world in
    IsLeast-busy w c.args.seats.now c.loop-seat.least
    (subst (λ l. IsLeastBusy w c.args.seats.now l c.loop-seat.least) (take_all c.loop-seat.seat-index c.args.seats.now c.loop-seat-test.false) c.loop-seat.invariant.2)

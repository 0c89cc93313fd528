use Rattle.uni_shared.proofs.Vocabulary.{All, get_or, refl, seats_of, subst, sym, world_of, ℕ, ◌<◌, ◌∙◌, ◌≡◌}
use Rattle.uni_shared.proofs.Closing.{IsBusy-none}
use Rattle.uni_shared.proofs.agreement.first_fault.Goals as goal

pub returns-then-processes-n-clause-fault : goal.returns-then-processes-n-clause-fault
returns-then-processes-n-clause-fault g c = (c.missing_seat.ensures.none c.in-None.is, λ same. c.if-processes-n.true (c.processes.ensures ∙ same))

pub returns-in-Some-pending_seat-clause-fault : goal.returns-in-Some-pending_seat-clause-fault
returns-in-Some-pending_seat-clause-fault g c = (
  c.missing_seat.ensures.none c.in-None.is,
  sym c.processes.ensures ∙ c.if-processes-n.false,
  c.in-Some-pending_seat.ensures.least,
)

pub returns-in-Some-first_mismatch-clause-fault : goal.returns-in-Some-first_mismatch-clause-fault
returns-in-Some-first_mismatch-clause-fault g c = (
  c.missing_seat.ensures.none c.in-None.is,
  sym c.processes.ensures ∙ c.if-processes-n.false,
  IsBusy-none (world_of c.args.recorded.now.world) c.args.seats.now (c.pending_seat.ensures.idle c.in-None-pending_seat.is) (c.pending_seat.ensures.quiet c.in-None-pending_seat.is),
  c.in-Some-first_mismatch.ensures.first,
)

pub returns-in-None-first_mismatch-clause-closed : goal.returns-in-None-first_mismatch-clause-closed
returns-in-None-first_mismatch-clause-closed g c = λ none.
    let seats = c.args.seats.now in
    let n = sym c.if-processes-n.false ∙ c.processes.ensures in
    let each = subst (λ n. (p : ℕ) → p < n → seats_of p seats ≡ 1) n (c.missing_seat.ensures.each c.in-None.is) in
    let only = subst (λ n. All (λ s. s.process < n) seats) n (c.missing_seat.ensures.only c.in-None.is) in
    record {
      each = each;
      only = only;
      idle = c.pending_seat.ensures.idle c.in-None-pending_seat.is;
      quiet = c.pending_seat.ensures.quiet c.in-None-pending_seat.is;
      agree = λ k d there. c.first_mismatch.ensures.none c.in-None-first_mismatch.is (get_or seats k d).process (only k d there) k d there refl;
    }

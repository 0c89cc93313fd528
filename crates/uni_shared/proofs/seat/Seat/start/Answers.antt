use Rattle.std.proofs.Common.{rules}
use Rattle.std.specs.Prelude.{refl}
use Rattle.uni_shared.proofs.seat.Seat.start.Goals as goal

pub returns-then-is_some-clause-seat_pending : goal.returns-then-is_some-clause-seat_pending
returns-then-is_some-clause-seat_pending g c = search rules

pub returns-then-is_some-clause-none_pending : goal.returns-then-is_some-clause-none_pending
returns-then-is_some-clause-none_pending g c = search rules

pub returns-in-Ok-clause-next : goal.returns-in-Ok-clause-next
returns-in-Ok-clause-next g c = (c.in-Ok.held.call, record { process = search rules; nth = search rules }, refl)

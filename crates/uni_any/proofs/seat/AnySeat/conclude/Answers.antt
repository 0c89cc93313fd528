use Rattle.uni_any.proofs.Vocabulary.{ap, refl, ◌+◌}
use Rattle.std.specs.Arc.{arc_value}
use Rattle.uni_any.specs.Seats.{processes_of, view_in}
use Rattle.uni_any.proofs.Attempts.{finished_ok, seat_ended}
use Rattle.uni_any.proofs.seat.AnySeat.conclude.Goals as goal

pub returns-clause-seat : goal.returns-clause-seat
returns-clause-seat g c =
    let p = c.requires.pending in
    let k = c.finish.ensures.kept in
    let same = c.finish.ensures.same in
    let inv = arc_value p.0 in
    let e = finished_ok (view_in c.args.self.now) (view_in c.finish.new.self) inv (processes_of c.args.shared.now) c.finish.result c.in_ok-answer.answer c.in_ok-answer.was (c.finish.ensures.finished p.0 p.1 p.2) in
    (seat_ended c.args.shared.now c.args.self.now _ inv c.in_ok-answer.answer c.requires.made (ap (λ n. n + 1) same.1, refl) (record { place = k.place; number = k.number; inside = k.inside; last = k.last; seen = k.seen; long = k.long; named = k.named }) e, same.0)

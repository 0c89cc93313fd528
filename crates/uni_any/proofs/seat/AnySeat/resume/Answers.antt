use Rattle.uni_any.proofs.Vocabulary.{ap, pending_of}
use Rattle.std.specs.Arc.{arc_value}
use Rattle.uni_any.specs.Seats.{processes_of, view_in}
use Rattle.uni_any.proofs.Attempts.{finished_ok, left_pending}
use Rattle.uni_any.proofs.seat.AnySeat.resume.Goals as goal

pub conclude-requires-clause-made : goal.conclude-requires-clause-made
conclude-requires-clause-made g c = (c.requires.seat.made, c.requires.seat.pending_few c.if-is_none.ensures)

pub conclude-requires-clause-pending : goal.conclude-requires-clause-pending
conclude-requires-clause-pending g c =
    let seat = c.requires.seat in
    let p = left_pending (processes_of c.args.shared.now) c.args.self.now.asked (view_in c.args.self.now) c.if-is_none.ensures seat.stands in
    p

pub returns-clause-later : goal.returns-clause-later
returns-clause-later g c =
    let seat = c.requires.seat in
    let p = left_pending (processes_of c.args.shared.now) c.args.self.now.asked (view_in c.args.self.now) c.if-is_none.ensures seat.stands in
    (finished_ok (view_in c.args.self.now) (view_in c.conclude.new.self) (arc_value p.0) (processes_of c.args.shared.now) c.conclude.result c.in_ok-answer.answer c.in_ok-answer.was (c.conclude.ensures.finished p.0 p.1 p.2)).later

pub returns-clause-version : goal.returns-clause-version
returns-clause-version g c =
    let seat = c.requires.seat in
    let p = left_pending (processes_of c.args.shared.now) c.args.self.now.asked (view_in c.args.self.now) c.if-is_none.ensures seat.stands in
    (finished_ok (view_in c.args.self.now) (view_in c.conclude.new.self) (arc_value p.0) (processes_of c.args.shared.now) c.conclude.result c.in_ok-answer.answer c.in_ok-answer.was (c.conclude.ensures.finished p.0 p.1 p.2)).after

pub returns-clause-idle : goal.returns-clause-idle
returns-clause-idle g c =
    let seat = c.requires.seat in
    let p = left_pending (processes_of c.args.shared.now) c.args.self.now.asked (view_in c.args.self.now) c.if-is_none.ensures seat.stands in
    ap pending_of (finished_ok (view_in c.args.self.now) (view_in c.conclude.new.self) (arc_value p.0) (processes_of c.args.shared.now) c.conclude.result c.in_ok-answer.answer c.in_ok-answer.was (c.conclude.ensures.finished p.0 p.1 p.2)).idle

use Rattle.uni_any.proofs.Vocabulary.{ap, pending_of}
use Rattle.std.specs.Arc.{arc_value}
use Rattle.uni_any.specs.Seats.{processes_of, view_in}
use Rattle.uni_any.proofs.Attempts.{announced_ended, announced_pending, finished_ok}
use Rattle.uni_any.proofs.seat.AnySeat.apply.Goals as goal

pub conclude-requires-clause-pending : goal.conclude-requires-clause-pending
conclude-requires-clause-pending g c =
    let a = c.in_ok-announce.ensures in
    (a.asked.0, a.asked.1, announced_pending (view_in c.args.self.now) (view_in c.announce.new.self) c.args.inv (processes_of c.args.shared.now) a.announced (arc_value a.asked.0) a.asked.2 a.kept.place.processes)

pub returns-clause-own : goal.returns-clause-own
returns-clause-own g c =
    let a = c.in_ok-announce.ensures in
    (announced_ended (view_in c.args.self.now) (view_in c.announce.new.self) c.args.inv (processes_of c.args.shared.now) a.announced (view_in c.conclude.new.self) (arc_value a.asked.0) a.asked.2 c.in_ok-answer.answer
    (finished_ok (view_in c.announce.new.self) (view_in c.conclude.new.self) (arc_value a.asked.0) (processes_of c.args.shared.now) c.conclude.result c.in_ok-answer.answer c.in_ok-answer.was
    (c.conclude.ensures.finished a.asked.0 a.asked.1 (announced_pending (view_in c.args.self.now) (view_in c.announce.new.self) c.args.inv (processes_of c.args.shared.now) a.announced (arc_value a.asked.0) a.asked.2 a.kept.place.processes)))).own

pub returns-clause-later : goal.returns-clause-later
returns-clause-later g c =
    let a = c.in_ok-announce.ensures in
    (announced_ended (view_in c.args.self.now) (view_in c.announce.new.self) c.args.inv (processes_of c.args.shared.now) a.announced (view_in c.conclude.new.self) (arc_value a.asked.0) a.asked.2 c.in_ok-answer.answer
    (finished_ok (view_in c.announce.new.self) (view_in c.conclude.new.self) (arc_value a.asked.0) (processes_of c.args.shared.now) c.conclude.result c.in_ok-answer.answer c.in_ok-answer.was
    (c.conclude.ensures.finished a.asked.0 a.asked.1 (announced_pending (view_in c.args.self.now) (view_in c.announce.new.self) c.args.inv (processes_of c.args.shared.now) a.announced (arc_value a.asked.0) a.asked.2 a.kept.place.processes)))).later

pub returns-clause-version : goal.returns-clause-version
returns-clause-version g c =
    let a = c.in_ok-announce.ensures in
    (announced_ended (view_in c.args.self.now) (view_in c.announce.new.self) c.args.inv (processes_of c.args.shared.now) a.announced (view_in c.conclude.new.self) (arc_value a.asked.0) a.asked.2 c.in_ok-answer.answer
    (finished_ok (view_in c.announce.new.self) (view_in c.conclude.new.self) (arc_value a.asked.0) (processes_of c.args.shared.now) c.conclude.result c.in_ok-answer.answer c.in_ok-answer.was
    (c.conclude.ensures.finished a.asked.0 a.asked.1 (announced_pending (view_in c.args.self.now) (view_in c.announce.new.self) c.args.inv (processes_of c.args.shared.now) a.announced (arc_value a.asked.0) a.asked.2 a.kept.place.processes)))).after

pub returns-clause-idle : goal.returns-clause-idle
returns-clause-idle g c =
    let a = c.in_ok-announce.ensures in
    ap pending_of (announced_ended (view_in c.args.self.now) (view_in c.announce.new.self) c.args.inv (processes_of c.args.shared.now) a.announced (view_in c.conclude.new.self) (arc_value a.asked.0) a.asked.2 c.in_ok-answer.answer
    (finished_ok (view_in c.announce.new.self) (view_in c.conclude.new.self) (arc_value a.asked.0) (processes_of c.args.shared.now) c.conclude.result c.in_ok-answer.answer c.in_ok-answer.was
    (c.conclude.ensures.finished a.asked.0 a.asked.1 (announced_pending (view_in c.args.self.now) (view_in c.announce.new.self) c.args.inv (processes_of c.args.shared.now) a.announced (arc_value a.asked.0) a.asked.2 a.kept.place.processes)))).idle

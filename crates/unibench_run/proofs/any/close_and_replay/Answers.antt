use Rattle.unibench_run.proofs.Vocabulary.{[], subst, sym, ◌∷◌}
use Rattle.told_order.specs.Counted.{counted}
use Rattle.uni_any.specs.Closed.{HasRunTo, last_version}
use Rattle.uni_any.specs.News.{version_as}
use Rattle.uni_any.specs.Seats.{known_calls, processes_of}
use Rattle.unibench_run.proofs.any.close_and_replay.Goals as goal

pub returns-clause-closed : goal.returns-clause-closed
returns-clause-closed g c =
    let n = processes_of c.args.shared in
    let seat = known_calls c.args.seat ∷ [] in
    let object = g.O.SeqObject.sequential c.args.object.now in
    let same = c.in_ok-is_last.ensures.0 c.if-not-branch.false in
    let run = subst (λ o. HasRunTo (counted (g.O.SeqObject.sequential o)) n seat (last_version c.close_with-closed.result)) c.requires.object c.close_with-closed.ensures.told in
    record {
      reached = c.in_ok-reached.reached;
      replayed = c.in_ok-reached.ensures.agrees;
      last = version_as c.block-last.result.now;
      run = subst (λ v. HasRunTo (counted object) n seat v) (sym c.block-last.ensures) run;
      all = same.0;
      state = same.1;
    }

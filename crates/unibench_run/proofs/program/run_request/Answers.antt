use Rattle.unibench_run.proofs.Vocabulary.{Tells, subst, sym}
use Rattle.unibench_run.proofs.program.run_request.Goals as goal

pub returns-in-Replay-clause-told : goal.returns-in-Replay-clause-told
returns-in-Replay-clause-told g c = λ some.
    subst (λ r. Tells r (g.F.TextOut.contents c.args.faults.now) (g.F.TextOut.contents c.replay.new.faults) (g.F.TextOut.has_failed c.replay.new.faults) c.replay.result)
    (sym c.in-Replay.is) (c.replay.ensures.told some)

pub returns-in-Replay-clause-unread : goal.returns-in-Replay-clause-unread
returns-in-Replay-clause-unread g c = λ none. absurd ((none c.in-Replay.options).0 c.in-Replay.is)

pub returns-in-Explained-clause-unread : goal.returns-in-Explained-clause-unread
returns-in-Explained-clause-unread g c = λ none. absurd ((none c.in-Explained.options).1 c.in-Explained.is)

pub returns-in-Random-clause-told : goal.returns-in-Random-clause-told
returns-in-Random-clause-told g c = λ some.
    subst (λ r. Tells r (g.F.TextOut.contents c.args.faults.now) (g.F.TextOut.contents c.random.new.faults) (g.F.TextOut.has_failed c.random.new.faults) c.random.result)
    (sym c.in-Random.is) (c.random.ensures.told some)

pub returns-in-Threads-clause-told : goal.returns-in-Threads-clause-told
returns-in-Threads-clause-told g c = λ some.
    subst (λ r. Tells r (g.F.TextOut.contents c.args.faults.now) (g.F.TextOut.contents c.threads.new.faults) (g.F.TextOut.has_failed c.threads.new.faults) c.threads.result)
    (sym c.in-Threads.is) (c.threads.ensures.told some)

pub returns-in-Language-clause-told : goal.returns-in-Language-clause-told
returns-in-Language-clause-told g c = λ some.
    subst (λ r. Tells r (g.F.TextOut.contents c.args.faults.now) (g.F.TextOut.contents c.write_language.new.faults) (g.F.TextOut.has_failed c.write_language.new.faults) c.write_language.result)
    (sym c.in-Language.is) (c.write_language.ensures.told some)

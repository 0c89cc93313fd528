use Rattle.uni_script.proofs.Vocabulary.{Audit, Err, IsPromisedSession, IsRan, Ok, Read, ap, refl, scripts, subst, summary_of_session, sym, ◌≡◌}
use Rattle.uni_script.specs.Replay.{IsSummary}
use Rattle.uni_script.proofs.RunningOn.{one_fault}
use Rattle.uni_script.proofs.Replaying.{HasEnded-replayed, HasEnded-leaves, HasEnded-audited, HasEnded-bad, HasEnded-part, HasEnded-read}
use Rattle.uni_script.proofs.replay.bench.Goals as goal

pub returns-in-Ok-clause-replayed : goal.returns-in-Ok-clause-replayed
returns-in-Ok-clause-replayed g c = HasEnded-replayed (scripts c.args.options.now) _ _ _ _ _ _ IsRan (Ok c.in-Ok.ran) c.in-Ok.ensures.run

pub returns-in-Ok-clause-summary : goal.returns-in-Ok-clause-summary
returns-in-Ok-clause-summary g c = subst (IsSummary c.args.options.now _) (sym c.into_summary.ensures) (HasEnded-leaves (scripts c.args.options.now) _ _ _ _ _ _ IsRan c.in-Ok.ran (λ lines b. c.in-Ok.ran.summary ≡ summary_of_session lines b) (λ lines b is. is.0) c.in-Ok.ensures.run)

pub returns-in-Ok-clause-promised : goal.returns-in-Ok-clause-promised
returns-in-Ok-clause-promised g c = HasEnded-leaves (scripts c.args.options.now) _ _ _ _ _ _ IsRan c.in-Ok.ran (λ lines b. IsPromisedSession b) (λ lines b is. is.1) c.in-Ok.ensures.run

pub returns-in-Err-clause-audited : goal.returns-in-Err-clause-audited
returns-in-Err-clause-audited g c = λ verdict same. HasEnded-audited (scripts c.args.options.now) _ _ _ _ _ _ IsRan (Err c.in-Err.fault) c.in-Err.ensures.run verdict (ap Err (one_fault c.in-Err.fault (Audit verdict) _ refl same))

pub returns-in-Err-clause-fault : goal.returns-in-Err-clause-fault
returns-in-Err-clause-fault g c = HasEnded-bad (scripts c.args.options.now) _ _ _ _ _ _ IsRan (Err c.in-Err.fault) c.in-Err.ensures.run

pub returns-in-Err-clause-part : goal.returns-in-Err-clause-part
returns-in-Err-clause-part g c = HasEnded-part (scripts c.args.options.now) _ _ _ _ _ _ IsRan (Err c.in-Err.fault) c.in-Err.ensures.run

pub returns-in-Err-clause-read : goal.returns-in-Err-clause-read
returns-in-Err-clause-read g c = λ same. HasEnded-read (scripts c.args.options.now) _ _ _ _ _ _ IsRan (Err c.in-Err.fault) c.in-Err.ensures.run (ap Err (one_fault c.in-Err.fault Read _ refl same))

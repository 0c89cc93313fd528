use Rattle.uni_script.proofs.Vocabulary.{Audit, Err, IsOwnRan, IsPromised, Ok, Read, ap, own_scripts, refl, spoken, summary_of, ◌≡◌}
use Rattle.uni_script.proofs.RunningOn.{one_fault}
use Rattle.uni_script.proofs.Replaying.{HasEnded-replayed, HasEnded-leaves, HasEnded-audited, HasEnded-bad, HasEnded-part, HasEnded-read}
use Rattle.uni_script.proofs.own.bench_object.Goals as goal

pub returns-in-Ok-clause-replayed : goal.returns-in-Ok-clause-replayed
returns-in-Ok-clause-replayed g c = HasEnded-replayed (own_scripts (spoken g.O.SeqObject.sequential g.O.Spoken.language c.args.object) c.args.name.now c.args.options.now) _ _ _ _ _ _ (IsOwnRan (spoken g.O.SeqObject.sequential g.O.Spoken.language c.args.object)) (Ok c.in-Ok.ran) c.in-Ok.ensures.run

pub returns-in-Ok-clause-summary : goal.returns-in-Ok-clause-summary
returns-in-Ok-clause-summary g c = HasEnded-leaves (own_scripts (spoken g.O.SeqObject.sequential g.O.Spoken.language c.args.object) c.args.name.now c.args.options.now) _ _ _ _ _ _ (IsOwnRan (spoken g.O.SeqObject.sequential g.O.Spoken.language c.args.object)) c.in-Ok.ran (λ lines b. c.in-Ok.ran.summary ≡ summary_of (spoken g.O.SeqObject.sequential g.O.Spoken.language c.args.object) lines b.session) (λ lines b is. is.0) c.in-Ok.ensures.run

pub returns-in-Ok-clause-promised : goal.returns-in-Ok-clause-promised
returns-in-Ok-clause-promised g c = HasEnded-leaves (own_scripts (spoken g.O.SeqObject.sequential g.O.Spoken.language c.args.object) c.args.name.now c.args.options.now) _ _ _ _ _ _ (IsOwnRan (spoken g.O.SeqObject.sequential g.O.Spoken.language c.args.object)) c.in-Ok.ran (λ lines b. IsPromised (spoken g.O.SeqObject.sequential g.O.Spoken.language c.args.object) b.session) (λ lines b is. is.1) c.in-Ok.ensures.run

pub returns-in-Err-clause-audited : goal.returns-in-Err-clause-audited
returns-in-Err-clause-audited g c = λ verdict same. HasEnded-audited (own_scripts (spoken g.O.SeqObject.sequential g.O.Spoken.language c.args.object) c.args.name.now c.args.options.now) _ _ _ _ _ _ (IsOwnRan (spoken g.O.SeqObject.sequential g.O.Spoken.language c.args.object)) (Err c.in-Err.fault) c.in-Err.ensures.run verdict (ap Err (one_fault c.in-Err.fault (Audit verdict) _ refl same))

pub returns-in-Err-clause-fault : goal.returns-in-Err-clause-fault
returns-in-Err-clause-fault g c = HasEnded-bad (own_scripts (spoken g.O.SeqObject.sequential g.O.Spoken.language c.args.object) c.args.name.now c.args.options.now) _ _ _ _ _ _ (IsOwnRan (spoken g.O.SeqObject.sequential g.O.Spoken.language c.args.object)) (Err c.in-Err.fault) c.in-Err.ensures.run

pub returns-in-Err-clause-part : goal.returns-in-Err-clause-part
returns-in-Err-clause-part g c = HasEnded-part (own_scripts (spoken g.O.SeqObject.sequential g.O.Spoken.language c.args.object) c.args.name.now c.args.options.now) _ _ _ _ _ _ (IsOwnRan (spoken g.O.SeqObject.sequential g.O.Spoken.language c.args.object)) (Err c.in-Err.fault) c.in-Err.ensures.run

pub returns-in-Err-clause-read : goal.returns-in-Err-clause-read
returns-in-Err-clause-read g c = λ same. HasEnded-read (own_scripts (spoken g.O.SeqObject.sequential g.O.Spoken.language c.args.object) c.args.name.now c.args.options.now) _ _ _ _ _ _ (IsOwnRan (spoken g.O.SeqObject.sequential g.O.Spoken.language c.args.object)) (Err c.in-Err.fault) c.in-Err.ensures.run (ap Err (one_fault c.in-Err.fault Read _ refl same))

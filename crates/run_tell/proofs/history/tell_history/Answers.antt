use Rattle.run_tell.proofs.Vocabulary.{HasRangeFault, IsTold, history_wording, subst}
use Rattle.run_tell.proofs.Observed.{IsHistory-told}
use Rattle.run_tell.proofs.Tellings.{WritesSuch-weaker}
use Rattle.run_tell.proofs.history.tell_history.Goals as goal

pub returns-clause-told : goal.returns-clause-told
returns-clause-told g c =
    let left = g.I.TextIn.remaining c.args.reader.now in
    WritesSuch-weaker c.tell_script.result _ _ _ _ (λ text is. IsHistory-told left text (subst (λ range. IsTold history_wording range left text) c.all.ensures.range is)) c.tell_script.ensures.told

pub returns-clause-range : goal.returns-clause-range
returns-clause-range g c = λ e is. subst (λ range. HasRangeFault range e (g.I.TextIn.remaining c.args.reader.now)) c.all.ensures.range (c.tell_script.ensures.range e is)

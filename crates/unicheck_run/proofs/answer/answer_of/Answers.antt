use Rattle.std.proofs.Common.{subst}
use Rattle.unicheck_run.specs.Found.{IsFound}
use Rattle.unicheck_run.proofs.Saying.{says_of}
use Rattle.unicheck_run.proofs.answer.answer_of.Goals as goal

pub returns-clause-said : goal.returns-clause-said
returns-clause-said g c =
    says_of (g.O.SeqObject.sequential c.args.object.now) c.args.history.now.events.items c.in_ok-finding.finding c.status_of.result
    (subst (λ events. IsFound (g.O.SeqObject.sequential c.args.object.now) events c.in_ok-finding.finding) c.as_slice-events.ensures.value c.in_ok-finding.ensures)
    c.status_of.ensures.status

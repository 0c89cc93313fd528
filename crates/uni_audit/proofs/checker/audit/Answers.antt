use Rattle.uni_audit.proofs.Vocabulary.{Agrees, IfOk-weaker, [], ap, append-nil, entries_verdict, first, refl, returns_verdict, sym, verdict_of, ◌∙◌, ◌≡◌}
use Rattle.uni_audit.proofs.Faults.{first-fault, first-last}
use Rattle.uni_audit.proofs.Meaning.{agrees_means}
use Rattle.uni_audit.proofs.checker.audit.Goals as goal

pub returns-in_default : goal.returns-in_default
returns-in_default g c =
    let same = g.O.Resp.PartialEq.eq in
    let object = g.O.SeqObject.sequential c.args.object.now in
    let entries = c.args.entries.now in
    let returned = returns_verdict same entries [] c.args.returns.now in
    let all : c.in_ok-verdict.verdict ≡ entries_verdict same object object.initial [] entries =
    sym (first-last c.in_ok-verdict.verdict) ∙ c.in_ok-verdict.ensures.verdict [] ∙ rw (c.in_ok-check.ensures.start, append-nil entries) refl in
    let verdict : c.in_ok-verdict.verdict ≡ verdict_of same object entries c.args.returns.now =
    sym (first-fault c.in_ok-verdict.verdict returned c.in_default.not-Agrees) ∙ ap (λ v. first v returned) all in
    record { verdict = verdict; agrees = agrees_means same g.met.O.SeqObject.same_resp _ _ _ c.in_ok-verdict.verdict verdict }

pub returns-clause-verdict : goal.returns-clause-verdict
returns-clause-verdict g c =
    let same = g.O.Resp.PartialEq.eq in
    let object = g.O.SeqObject.sequential c.args.object.now in
    let entries = c.args.entries.now in
    let returned = returns_verdict same entries [] c.args.returns.now in
    let all : Agrees ≡ entries_verdict same object object.initial [] entries =
    sym c.in-Agrees.is ∙ sym (first-last c.in_ok-verdict.verdict) ∙ c.in_ok-verdict.ensures.verdict [] ∙ rw (c.in_ok-check.ensures.start, append-nil entries) refl in
    IfOk-weaker c.check_returns.result _ _ (λ v is. is ∙ ap (λ u. first u returned) all)
    (c.check_returns.ensures.verdict entries (c.in_ok-verdict.ensures.gone_over c.in-Agrees.is))

pub returns-clause-agrees : goal.returns-clause-agrees
returns-clause-agrees g c =
    IfOk-weaker c.check_returns.result _ _ (λ v. agrees_means g.O.Resp.PartialEq.eq g.met.O.SeqObject.same_resp (g.O.SeqObject.sequential c.args.object.now) c.args.entries.now c.args.returns.now v)
    (returns-clause-verdict g c)

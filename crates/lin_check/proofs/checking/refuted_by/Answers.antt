use Rattle.lin_check.proofs.Parts.{part_is}
use Rattle.lin_check.proofs.Vocabulary.{IsLinearizableHistory, acts_of, subst, sym, ◌∙◌}
use Rattle.lin_check.proofs.checking.refuted_by.Goals as goal

pub returns-in-NotLinearizable : goal.returns-in-NotLinearizable
returns-in-NotLinearizable g c = λ linearizable.
    let object = g.O.SeqObject.sequential c.args.object.now in
    let told = rw c.in-NotLinearizable.is at c.in_ok-check_whole.ensures in
    told (subst (λ events. IsLinearizableHistory object object.initial (acts_of events)) (sym (c.as_slice.ensures.value ∙ c.in_ok-events.ensures))
    (part_is object g.O.Checkable.part (g.met.O.Checkable.parts c.args.object.now) c.args.history.now linearizable c.args.part))

use Rattle.uni_shared.proofs.Vocabulary.{IsClosed, IsFaultOfClosing, ap, rules, subst, ◌∙◌}
use Rattle.uni_shared.proofs.shared.Shared.close.Goals as goal

pub invariant_of-result : goal.invariant_of-result
invariant_of-result g c = subst (λ l. IsClosed g.O.SeqObject.sequential c.into_inner-recorded.result l) c.deref.ensures.value (c.first_fault.ensures.closed c.in-None.is)

pub returns-in-None-clause-closed : goal.returns-in-None-clause-closed
returns-in-None-clause-closed g c = subst (λ l. IsClosed g.O.SeqObject.sequential c.into_inner-recorded.result l) c.deref.ensures.value (c.first_fault.ensures.closed c.in-None.is)

pub returns-in-None-clause-processes : goal.returns-in-None-clause-processes
returns-in-None-clause-processes g c = c.first_fault.ensures.processes c.in-None.is ∙ ap (λ s. s.processes) c.self.view_is

pub returns-in-Some-clause-fault : goal.returns-in-Some-clause-fault
returns-in-Some-clause-fault g c = (
  c.into_inner-recorded.result,
  c.promise.ensures.recording,
  subst (λ n. IsFaultOfClosing g.O.SeqObject.sequential n c.into_inner-recorded.result c.args.seats.items c.in-Some.fault) (ap (λ s. s.processes) c.self.view_is)
      (subst (λ l. IsFaultOfClosing g.O.SeqObject.sequential c.self.inside.processes c.into_inner-recorded.result l c.in-Some.fault) c.deref.ensures.value c.in-Some.ensures.fault),
)

pub returns-in-Some-clause-handed_back : goal.returns-in-Some-clause-handed_back
returns-in-Some-clause-handed_back g c = search rules

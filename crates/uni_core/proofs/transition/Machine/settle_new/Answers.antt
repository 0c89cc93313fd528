use Rattle.uni_core.proofs.Vocabulary.{IsSome, ap, named, option_copied, subst, sym, ◌∙◌}
use Rattle.uni_core.proofs.Transitions.{settled_kept, applied_there, copied_some, proposed_same}
use Rattle.uni_core.proofs.transition.Machine.settle_new.Goals as goal

pub returns-then-is_some-clause-memory : goal.returns-then-is_some-clause-memory
returns-then-is_some-clause-memory g c =
    settled_kept c.args.self.now.shared (named c.args.self.now.shared c.args.d) _
    (subst (λ o. IsSome o) c.new_of.ensures (copied_some c.new_of.result (sym c.is_some.ensures ∙ c.if-is_some.true)))

pub returns-clause-memory : goal.returns-clause-memory
returns-clause-memory g c =
    proposed_same c.args.self.now.shared c.decide_new.new.self (named c.args.self.now.shared c.args.d) _ _
    (applied_there (g.O.SeqObject.sequential c.args.self.now.object) _ _ c.in-Some-Some.before.now c.in-Some-Some.inv.now c.in_ok-state.state c.in_ok-state.response
    (sym c.new_of-2.ensures ∙ ap option_copied c.in-Some-Some.is-0) (sym c.inv.ensures ∙ ap option_copied c.in-Some-Some.is-1) c.in_ok-state.ensures.state c.in_ok-state.ensures.response)
    c.decide_new.ensures.memory

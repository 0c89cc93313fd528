use Rattle.uni_core.proofs.Vocabulary.{List, Local, ap, first_of, length, new_local, slice_index_or, subst, ℕ, ◌∙◌, ◌≡◌}
use Rattle.uni_core.proofs.Renewed.{last_there, IsWorld-renewed, world_of-renewed}
use Rattle.uni_core.proofs.world.World.renew_for.Goals as goal

pub renew_for-requires-clause-last : goal.renew_for-requires-clause-last
renew_for-requires-clause-last g c = last_there _ _ _ c.self.view_is c.self.invariant c.requires.quiescent c.shape.ensures.few.0 c.last-last.result c.last-last.ensures.last

pub invariant_of-self-2 : goal.invariant_of-self-2
invariant_of-self-2 g c =
    let firsts = subst (λ (ls : List Local). (p : ℕ) → first_of c.renew_for.new.self p ≡ (slice_index_or ls p new_local).begun) c.deref-2.ensures.value c.in_ok-renew_for.ensures.first in
    let long = subst (λ (ls : List Local). length c.renew_for.new.self.first ≡ length ls) c.deref-2.ensures.value c.in_ok-renew_for.ensures.long in
    IsWorld-renewed _ _ _ c.self.view_is c.self.invariant c.requires.quiescent c.shape.ensures.few.0 c.last-last.result c.last-last.ensures.last
    c.renew_for.new.self c.args.m c.in_ok-locals.locals.items c.in_ok-renew_for.ensures.memory firsts (λ p. c.in_ok-locals.ensures.same p ∙ ap (λ ls. slice_index_or ls p new_local) c.deref.ensures.value) c.in_ok-renew_for.ensures.shape.0
    c.requires.processes c.in_ok-locals.ensures.long.0 long c.in_ok-renew_for.ensures.shape.1 c.in_ok-renew_for.ensures.made c.requires.numbers

pub returns-clause-renewed : goal.returns-clause-renewed
returns-clause-renewed g c =
    let firsts = subst (λ (ls : List Local). (p : ℕ) → first_of c.renew_for.new.self p ≡ (slice_index_or ls p new_local).begun) c.deref-2.ensures.value c.in_ok-renew_for.ensures.first in
    world_of-renewed _ _ _ c.self.view_is c.self.invariant c.requires.quiescent c.shape.ensures.few.0 c.last-last.result c.last-last.ensures.last
    c.renew_for.new.self c.args.m c.in_ok-locals.locals.items c.in_ok-renew_for.ensures.memory firsts (λ p. c.in_ok-locals.ensures.same p ∙ ap (λ ls. slice_index_or ls p new_local) c.deref.ensures.value) c.in_ok-renew_for.ensures.shape.0

use Rattle.uni_core.proofs.Vocabulary.{List, Local, first_of, length, new_local, refl, slice_index_or, subst, ℕ, ◌≡◌}
use Rattle.uni_core.proofs.Renewed.{same_processes, enough_locals, last_there, IsWorld-renewed, world_of-renewed}
use Rattle.uni_core.proofs.world.World.renew.Goals as goal

pub renew-requires-clause-last : goal.renew-requires-clause-last
renew-requires-clause-last g c = last_there _ _ _ c.self.view_is c.self.invariant c.requires.quiescent c.shape.ensures.few.0 c.last-last.result c.last-last.ensures.last

pub invariant_of-self : goal.invariant_of-self
invariant_of-self g c =
    let firsts = subst (λ (ls : List Local). (p : ℕ) → first_of c.renew.new.self p ≡ (slice_index_or ls p new_local).begun) c.deref.ensures.value c.renew.ensures.first in
    let long = subst (λ (ls : List Local). length c.renew.new.self.first ≡ length ls) c.deref.ensures.value c.renew.ensures.long in
    let processes = same_processes _ _ _ c.self.view_is c.self.invariant c.requires.quiescent c.shape.ensures.few.0 c.last-last.result c.last-last.ensures.last _ c.renew.ensures.shape.0 in
    IsWorld-renewed _ _ _ c.self.view_is c.self.invariant c.requires.quiescent c.shape.ensures.few.0 c.last-last.result c.last-last.ensures.last
    c.renew.new.self _ c.self.inside.locals.items c.renew.ensures.memory firsts (λ p. refl) processes
    c.shape.ensures.few (enough_locals _ _ _ c.self.view_is c.self.invariant c.requires.quiescent c.shape.ensures.few.0 c.last-last.result c.last-last.ensures.last) long c.renew.ensures.shape.1 c.renew.ensures.made c.requires.numbers

pub returns-clause-renewed : goal.returns-clause-renewed
returns-clause-renewed g c =
    let firsts = subst (λ (ls : List Local). (p : ℕ) → first_of c.renew.new.self p ≡ (slice_index_or ls p new_local).begun) c.deref.ensures.value c.renew.ensures.first in
    let processes = same_processes _ _ _ c.self.view_is c.self.invariant c.requires.quiescent c.shape.ensures.few.0 c.last-last.result c.last-last.ensures.last _ c.renew.ensures.shape.0 in
    world_of-renewed _ _ _ c.self.view_is c.self.invariant c.requires.quiescent c.shape.ensures.few.0 c.last-last.result c.last-last.ensures.last
    c.renew.new.self _ c.self.inside.locals.items c.renew.ensures.memory firsts (λ p. refl) processes

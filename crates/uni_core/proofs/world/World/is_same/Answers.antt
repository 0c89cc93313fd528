use Rattle.uni_core.proofs.Vocabulary.{Invariant, refl, subst, sym, world_of, ◌∙◌}
use Rattle.uni_core.proofs.Likeness.{same_worlds, entries_now}
use Rattle.uni_core.proofs.world.World.is_same.Goals as goal

pub returns : goal.returns
returns g c = λ same.
    let entries = entries_now _ c.args.self.now _ c.args.other.now c.self.view_is c.other.view_is (c.if-not-same_entries.ensures refl) in
    same_worlds (g.O.SeqObject.sequential c.args.self.now.object) c.args.self.now c.args.other.now c.shape.ensures.sound
    (subst (λ o. Invariant (g.O.SeqObject.sequential o) (world_of c.args.other.now)) c.requires.object c.shape-2.ensures.sound)
    (sym c.processes.ensures ∙ c.if-processes.false ∙ c.processes-2.ensures) entries.0 entries.1 entries.2
    (c.if-not-same_locals.ensures refl) (c.same_cells.ensures same) (sym c.requires.anchor)

use Rattle.std.proofs.Common.{◌∙◌, ap, replicate}
use Rattle.uni_core.proofs.OpenedWorld.{IsWorld-first, world_of-first}
use Rattle.uni_core.proofs.world.World.open_at.Goals as goal

-- src/world.rt:121:9
pub invariant_of-result : goal.invariant_of-result
invariant_of-result g c = IsWorld-first _ c.args.object c.in-Ok-opened.shared c.args.n c.args.k c.args.state c.args.seq c.in-Ok.locals.items
    (c.in-Ok.ensures.items_if_clones_equal (λ y same. same) ∙ ap (replicate c.args.n) c.new.ensures) c.in-Ok-opened.ensures.memory c.in-Ok-opened.ensures.shape c.in-Ok-opened.ensures.first c.in_ok-counts_fit.ensures.allowed.0.1 c.in-Ok-opened.ensures.made c.requires c.in_ok-counts_fit.ensures.allowed.2

-- src/world.rt:91:5
pub returns-clause-opened : goal.returns-clause-opened
returns-clause-opened g c = world_of-first (g.O.SeqObject.sequential c.args.object) c.args.object c.in-Ok-opened.shared c.args.n c.args.k c.args.state c.args.seq c.in-Ok.locals.items
    (c.in-Ok.ensures.items_if_clones_equal (λ y same. same) ∙ ap (replicate c.args.n) c.new.ensures) c.in-Ok-opened.ensures.memory c.in-Ok-opened.ensures.shape c.in-Ok-opened.ensures.first

use Rattle.uni_core.proofs.Vocabulary.{IfOk, opened_world, subst, world_of, ◌≡◌}
use Rattle.uni_core.proofs.world.World.open_from.Goals as goal

pub returns-clause-opened : goal.returns-clause-opened
returns-clause-opened g c = subst (λ state. IfOk c.open_at.result (λ w. world_of w ≡ opened_world c.args.n state c.args.seq)) c.in-Ok.ensures c.open_at.ensures.opened

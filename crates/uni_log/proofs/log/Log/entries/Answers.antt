use Rattle.std.proofs.lemmas.Result.{IfOk-weaker}
use Rattle.uni_log.proofs.Replies.{settled_but_last}
use Rattle.uni_log.proofs.Legal.{legal_log}
use Rattle.uni_log.proofs.log.Log.entries.Goals as goal

pub returns-clause-settled : goal.returns-clause-settled
returns-clause-settled g c =
    IfOk-weaker c.entries_after.result _ _ (λ entries logged. settled_but_last (g.O.SeqObject.sequential c.self.inside.world.now.object) _ c.shape.ensures.sound entries.items (rw (c.new.ensures.items, ← c.self.view_is) at logged)) c.entries_after.ensures

pub returns-clause-legal : goal.returns-clause-legal
returns-clause-legal g c = rw (← c.self.view_is)
    (IfOk-weaker c.entries_after.result _ _ (λ entries logged. legal_log (g.O.SeqObject.sequential c.self.inside.world.now.object) _ c.shape.ensures.sound entries.items (rw (c.new.ensures.items, ← c.self.view_is) at logged)) c.entries_after.ensures)

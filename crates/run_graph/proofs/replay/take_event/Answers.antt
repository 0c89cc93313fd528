use Rattle.run_graph.proofs.Vocabulary.{Anchor, Call, Some, Step, WorldOf, ap, arith, call_in, new_of, plan_of, sym, world_of, ◌∙◌}
use Rattle.run_graph.proofs.Moves.{anchor_stays, moved-call}
use Rattle.run_graph.proofs.replay.take_event.Goals as goal

pub returns-in-Ok-clause-anchor : goal.returns-in-Ok-clause-anchor
returns-in-Ok-clause-anchor g c =
    ap (λ (w : WorldOf g.row.O-State.Denot g.row.O-Inv.Denot g.row.O-Resp.Denot). new_of w.memory Anchor) c.in-Ok.ensures.step
    ∙ anchor_stays (g.O.SeqObject.sequential c.args.world.now.object) (world_of c.args.world.now) (Step c.args.p) c.shape.ensures.sound c.in-Ok.ensures.allowed.1 tt

pub returns-in-Ok-begin-clause-moved : goal.returns-in-Ok-begin-clause-moved
returns-in-Ok-begin-clause-moved g c =
    moved-call (plan_of (g.O.SeqObject.sequential c.args.world.now.object) (world_of c.args.world.now).n c.args.plan.now.row c.args.plan.now.calls.items) (world_of c.args.world.now) c.args.p c.in-Some.inv.now
    c.in-Ok-begin.ensures.allowed.0 c.in-Ok-begin.ensures.allowed.1 (let made = c.calls_in_era.ensures in let room = c.if-calls_in_era-plan.false in omega arith)
    (ap (call_in c.args.plan.now.calls.items c.args.p) (sym c.begun.ensures) ∙ sym c.in-Some.ensures)
    ∙ ap Some (sym c.in-Ok-begin.ensures.begun)

pub returns-in-Ok-begin-clause-anchor : goal.returns-in-Ok-begin-clause-anchor
returns-in-Ok-begin-clause-anchor g c =
    ap (λ (w : WorldOf g.row.O-State.Denot g.row.O-Inv.Denot g.row.O-Resp.Denot). new_of w.memory Anchor) c.in-Ok-begin.ensures.begun
    ∙ anchor_stays (g.O.SeqObject.sequential c.args.world.now.object) (world_of c.args.world.now) (Call c.args.p c.in-Some.inv.now) c.shape.ensures.sound
    (c.in-Ok-begin.ensures.allowed.0, c.in-Ok-begin.ensures.allowed.1) tt

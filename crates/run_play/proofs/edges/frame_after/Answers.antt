use Rattle.run_play.proofs.Vocabulary.{Call, Some, Step, WorldOf, ap, arith, call_in, is_some, new_of, plan_of, sym, world_of, ◌∙◌}
use Rattle.uni_model.specs.Places.Name.{Anchor}
use Rattle.run_graph.proofs.Moves.{anchor_stays, moved-call}
use Rattle.run_play.proofs.Telling.{none_mapped, some_mapped}
use Rattle.run_play.proofs.edges.frame_after.Goals as goal

pub returns-then-is_some-clause-anchor : goal.returns-then-is_some-clause-anchor
returns-then-is_some-clause-anchor g c =
    ap (λ (w : WorldOf g.row.O-State.Denot g.row.O-Inv.Denot g.row.O-Resp.Denot). new_of w.memory Anchor) c.in_ok-step_of.ensures.world
    ∙ anchor_stays (g.O.SeqObject.sequential c.args.world.now.object) (world_of c.args.world.now) (Step c.args.p) c.shape.ensures.sound (some_mapped _ _ _ c.in_ok-step_of.ensures.step) tt

pub returns-in_ok-begun_of-in-Some-clause-anchor : goal.returns-in_ok-begun_of-in-Some-clause-anchor
returns-in_ok-begun_of-in-Some-clause-anchor g c =
    let there = c.if-p-processes.false in
    let count = c.processes.ensures in
    ap (λ (w : WorldOf g.row.O-State.Denot g.row.O-Inv.Denot g.row.O-Resp.Denot). new_of w.memory Anchor) c.in_ok-begun_of-in-Some.ensures.world
    ∙ anchor_stays (g.O.SeqObject.sequential c.args.world.now.object) (world_of c.args.world.now) (Call c.args.p c.in-Some.inv.now) c.shape.ensures.sound
    (omega arith, none_mapped _ _ (ap is_some (sym c.current.ensures) ∙ sym c.if-is_some.ensures)) tt

pub returns-in_ok-begun_of-in-Some-clause-moved : goal.returns-in_ok-begun_of-in-Some-clause-moved
returns-in_ok-begun_of-in-Some-clause-moved g c =
    let there = c.if-p-processes.false in
    let count = c.processes.ensures in
    let made = c.calls_in_era.ensures in
    let room = c.if-calls_in_era-plan.false in
    moved-call (plan_of (g.O.SeqObject.sequential c.args.world.now.object) (world_of c.args.world.now).n c.args.plan.now.row c.args.plan.now.calls.items) (world_of c.args.world.now) c.args.p c.in-Some.inv.now
    (omega arith) (none_mapped _ _ (ap is_some (sym c.current.ensures) ∙ sym c.if-is_some.ensures)) (omega arith)
    (ap (call_in c.args.plan.now.calls.items c.args.p) (sym c.begun.ensures) ∙ sym c.in-Some.ensures)
    ∙ ap Some (sym c.in_ok-begun_of-in-Some.ensures.world)

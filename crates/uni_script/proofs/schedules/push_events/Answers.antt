use Rattle.uni_script.proofs.Drawing.{IsDrawn-start, IsDrawn-event, IsDrawn-text, IsDrawn-drawn}
use Rattle.uni_script.proofs.schedules.push_events.Goals as goal

pub loop-init : goal.loop-init
loop-init g c = IsDrawn-start g.O.Spoken.language c.args.processes (g.D.Drawn.word c.args.source.now) c.args.text.now.items c.args.events

pub loop-preserved : goal.loop-preserved
loop-preserved g c =
    IsDrawn-event g.O.Spoken.language c.args.processes (g.D.Drawn.word c.args.source.now) c.args.text.now.items c.args.events c.loop.counter _ _ (g.D.Drawn.word c.loop.source) _ c.loop-test.true c.loop.invariant
    c.in_ok-push_event.ensures.text c.in_ok-push_event.ensures.drawn

pub returns-clause-text : goal.returns-clause-text
returns-clause-text g c =
    IsDrawn-text g.O.Spoken.language c.args.processes (g.D.Drawn.word c.args.source.now) c.args.text.now.items c.args.events c.loop.counter _ _ c.loop-test.false c.loop.invariant

pub returns-clause-drawn : goal.returns-clause-drawn
returns-clause-drawn g c =
    IsDrawn-drawn g.O.Spoken.language c.args.processes (g.D.Drawn.word c.args.source.now) c.args.text.now.items c.args.events c.loop.counter _ _ c.loop-test.false c.loop.invariant

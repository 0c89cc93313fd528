use Rattle.uni_script.proofs.Vocabulary.{LastStep, SpokenObject, Step, WorldOf, ap, arith, option_map, refl, session_of, subst, sym, world_after, world_of, ◌∙◌, ◌≡◌}
use Rattle.uni_record.specs.declared.event.Event.TheVariants as stored
use Rattle.uni_script.proofs.Helped.{IsReached-IsRecording, n-world_after_step}
use Rattle.uni_script.proofs.Stepping.{session_of-event, none-from_Going, some-from_Done, IsOnTheWay-start, IsOnTheWay-going, last_step-done, session-done, last_step-stopped, session-stopped, IsOnTheWay-few}
use Rattle.uni_script.proofs.commands.step_on.Goals as goal

pub loop-init : goal.loop-init
loop-init g c =
    let o : SpokenObject _ _ _ = record { object = g.O.SeqObject.sequential c.args.session.now.world.object; language = g.O.Spoken.language } in (
      refl,
      IsOnTheWay-start o c.args.process (session_of c.args.session.now) c.args.most (IsReached-IsRecording g.O.SeqObject.sequential c.args.session.now c.promise.ensures.recording) c.requires.pending,
    )

pub loop-preserved : goal.loop-preserved
loop-preserved g c =
    let o : SpokenObject _ _ _ = record { object = g.O.SeqObject.sequential c.args.session.now.world.object; language = g.O.Spoken.language } in
    let took = c.in-Ok-Going.ensures in (
      took.fixed.object ∙ c.loop.invariant.0,
      IsOnTheWay-going o c.args.process (session_of c.args.session.now) c.args.most c.loop.counter (session_of c.loop.session) c.loop.invariant.1 c.loop-test.true (session_of c.step.new.self)
          (session_of-event o c.loop.session c.step.new.self (stored.Step c.args.process) took.fixed took.event
          (subst (λ object. world_of c.step.new.self.world ≡ world_after (g.O.SeqObject.sequential object) (world_of c.loop.session.world) (Step c.args.process)) c.loop.invariant.0 took.step))
          (none-from_Going _ c.in-Ok-Going.field-0 c.in-Ok-Going.field-0-is took.progress),
    )

pub returns-in-Ok-Done-clause-session : goal.returns-in-Ok-Done-clause-session
returns-in-Ok-Done-clause-session g c =
    let o : SpokenObject _ _ _ = record { object = g.O.SeqObject.sequential c.args.session.now.world.object; language = g.O.Spoken.language } in
    let took = c.in-Ok-Done.ensures in
    session-done o c.args.process (session_of c.args.session.now) c.args.most c.loop.counter (session_of c.loop.session) c.loop.invariant.1 c.loop-test.true (session_of c.step.new.self)
    (session_of-event o c.loop.session c.step.new.self (stored.Step c.args.process) took.fixed took.event
    (subst (λ object. world_of c.step.new.self.world ≡ world_after (g.O.SeqObject.sequential object) (world_of c.loop.session.world) (Step c.args.process)) c.loop.invariant.0 took.step))
    c.in-Ok-Done.response (some-from_Done _ c.in-Ok-Done.response c.in-Ok-Done.field-0 c.in-Ok-Done.field-0-is took.progress)

pub returns-in-Ok-Done-clause-response : goal.returns-in-Ok-Done-clause-response
returns-in-Ok-Done-clause-response g c =
    let o : SpokenObject _ _ _ = record { object = g.O.SeqObject.sequential c.args.session.now.world.object; language = g.O.Spoken.language } in
    let took = c.in-Ok-Done.ensures in
    sym (ap (option_map (λ (last : LastStep _). last.response)) (last_step-done o c.args.process (session_of c.args.session.now) c.args.most c.loop.counter (session_of c.loop.session) c.loop.invariant.1 c.loop-test.true (session_of c.step.new.self)
    (session_of-event o c.loop.session c.step.new.self (stored.Step c.args.process) took.fixed took.event
    (subst (λ object. world_of c.step.new.self.world ≡ world_after (g.O.SeqObject.sequential object) (world_of c.loop.session.world) (Step c.args.process)) c.loop.invariant.0 took.step))
    c.in-Ok-Done.response (some-from_Done _ c.in-Ok-Done.response c.in-Ok-Done.field-0 c.in-Ok-Done.field-0-is took.progress)))

pub returns-in-Ok-Done-clause-processes : goal.returns-in-Ok-Done-clause-processes
returns-in-Ok-Done-clause-processes g c =
    ap (λ (w : WorldOf _ _ _). w.n) c.in-Ok-Done.ensures.step ∙ n-world_after_step (g.O.SeqObject.sequential c.loop.session.world.object) (world_of c.loop.session.world) c.args.process ∙ c.loop.invariant.1.n

pub returns-clause-session : goal.returns-clause-session
returns-clause-session g c =
    let o : SpokenObject _ _ _ = record { object = g.O.SeqObject.sequential c.args.session.now.world.object; language = g.O.Spoken.language } in
    session-stopped o c.args.process (session_of c.args.session.now) c.args.most c.loop.counter (session_of c.loop.session) c.loop.invariant.1 c.loop-test.false

pub returns-clause-response : goal.returns-clause-response
returns-clause-response g c =
    let o : SpokenObject _ _ _ = record { object = g.O.SeqObject.sequential c.args.session.now.world.object; language = g.O.Spoken.language } in
    sym (ap (option_map (λ (last : LastStep _). last.response)) (last_step-stopped o c.args.process (session_of c.args.session.now) c.args.most c.loop.counter (session_of c.loop.session) c.loop.invariant.1 c.loop-test.false))

pub returns-clause-over : goal.returns-clause-over
returns-clause-over g c = λ enough.
    let o : SpokenObject _ _ _ = record { object = g.O.SeqObject.sequential c.args.session.now.world.object; language = g.O.Spoken.language } in
    let few = IsOnTheWay-few o c.args.process (session_of c.args.session.now) c.args.most c.loop.counter (session_of c.loop.session) c.loop.invariant.1 in
    let all = c.loop-test.false in
    absurd (omega arith)

use Rattle.run_play.proofs.Vocabulary.{calls_of, events_shown, ◌++◌, ◌≡◌}
use Rattle.run_play.proofs.plan.calls_of.Given as goal

-- the calls so far, and those that are left
abbrev pub invariant-loop-event : goal.invariant-loop-event
invariant-loop-event g l = l.calls.items ++ calls_of l.p (events_shown l.event-iterator) ≡ calls_of l.p (events_shown l.recorded.events)

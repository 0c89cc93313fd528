use Rattle.run_play.proofs.Vocabulary.{events_shown, has_one_era, ◌≡◌}
use Rattle.run_play.proofs.plan.has_one_era.Given as goal

-- what is left has one era where all has
abbrev pub invariant-loop-event : goal.invariant-loop-event
invariant-loop-event g l = has_one_era (events_shown l.event-iterator) ≡ has_one_era (events_shown l.recorded.events)

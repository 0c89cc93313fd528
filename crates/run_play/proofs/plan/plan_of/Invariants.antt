use Rattle.run_play.proofs.Vocabulary.{[], calls_of, events_shown, length, option_map_or, slice_get, ℕ, ◌<◌, ◌≡◌}
use Rattle.run_play.proofs.plan.plan_of.Given as goal

-- the calls of the processes so far
abbrev pub invariant-loop-p : goal.invariant-loop-p
invariant-loop-p g l = record {
  count : length l.calls.items ≡ l.p;
  each : (q : ℕ) → q < l.p → option_map_or (λ c. c.items) (slice_get l.calls.items q) [] ≡ calls_of q (events_shown l.recorded.events);
}

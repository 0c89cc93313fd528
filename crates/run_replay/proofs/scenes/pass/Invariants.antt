use Rattle.run_replay.proofs.Vocabulary.{drop, events_shown, length, take, world_after_all, world_of, ◌+◌, ◌-◌, ◌≡◌, ◌≤◌}
use Rattle.run_replay.proofs.scenes.pass.Given as goal

-- what is left to be passed leads to the same world
abbrev pub invariant-loop-left : goal.invariant-loop-left
invariant-loop-left g l = record {
  can_next : (goal.iterator-loop-left g).can_next l.events;
  is_finite : (goal.iterator-loop-left g).is_finite l.events;
  object : l.replay.object ≡ l.initial.replay.object;
  fewer : l.left ≤ l.count;
  events : drop l.left l.events ≡ drop l.count l.initial.events;
  passed : (l.count - l.left) + length (take l.left (events_shown l.events)) ≡ length (take l.count (events_shown l.initial.events));
  world : world_after_all (g.O.SeqObject.sequential l.initial.replay.object) (world_of l.replay) (take l.left (events_shown l.events))
      ≡ world_after_all (g.O.SeqObject.sequential l.initial.replay.object) (world_of l.initial.replay) (take l.count (events_shown l.initial.events));
}

abbrev pub decreases-loop-left : goal.decreases-loop-left
decreases-loop-left g l = l.left

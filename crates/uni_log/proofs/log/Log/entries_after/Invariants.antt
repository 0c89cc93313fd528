use Rattle.uni_log.proofs.Vocabulary.{entry_shown, length, log, map, take, world_of, ◌++◌, ◌-◌, ◌≡◌}
use Rattle.uni_log.proofs.log.Log.entries_after.Given as goal

abbrev pub invariant-loop-entries : goal.invariant-loop-entries
invariant-loop-entries g l = record {
  world : l.cursor.world ≡ l.self;
  whole : map entry_shown l.entries.items ≡ map entry_shown l.fn.earlier.items ++ take l.cursor.passed (log (world_of l.self));
}

abbrev pub decreases-loop-entries : goal.decreases-loop-entries
decreases-loop-entries g l = length (log (world_of l.self)) - l.cursor.passed

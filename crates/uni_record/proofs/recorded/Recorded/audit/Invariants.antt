use Rattle.uni_record.proofs.Vocabulary.{Agrees, HasGoneOver, drop, entries_verdict, length, take, ◌++◌, ◌-◌, ◌≡◌}
use Rattle.uni_record.proofs.Audits.{present_of}
use Rattle.uni_record.proofs.recorded.Recorded.audit.Given as goal

abbrev pub invariant-loop-check : goal.invariant-loop-check
invariant-loop-check g l = record {
  world : l.cursor.world ≡ l.self.world;
  over : HasGoneOver (l.self.ended ++ take l.cursor.passed (present_of l.self)) l.check;
  rest : entries_verdict g.O.Resp.PartialEq.eq (g.O.SeqObject.sequential l.self.world.object) l.check.state (l.self.ended ++ take l.cursor.passed (present_of l.self)) (drop l.cursor.passed (present_of l.self)) ≡ Agrees;
}

abbrev pub decreases-loop-check : goal.decreases-loop-check
decreases-loop-check g l = length (present_of l.self) - l.cursor.passed

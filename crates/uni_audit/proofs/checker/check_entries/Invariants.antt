use Rattle.uni_audit.proofs.Vocabulary.{Entry, HasGoneOver, List, [], drop, entries_verdict, take, ◌++◌, ◌≡◌}
use Rattle.uni_audit.proofs.checker.check_entries.Given as goal

abbrev pub invariant-loop-entry : goal.invariant-loop-entry
invariant-loop-entry g l = record {
  over : HasGoneOver (take l.entry-index l.entries) l.check;
  rest : (later : List (Entry g.row.O-Inv.Denot g.row.O-Resp.Denot)) → entries_verdict g.O.Resp.PartialEq.eq (g.O.SeqObject.sequential l.object) l.check.state (take l.entry-index l.entries) (drop l.entry-index l.entries ++ later)
      ≡ entries_verdict g.O.Resp.PartialEq.eq (g.O.SeqObject.sequential l.object) l.fn.check.state [] (l.entries ++ later);
}

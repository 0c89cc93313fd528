use Rattle.uni_audit.proofs.Vocabulary.{AreMarked, Entry, HasGoneOver, List, [], drop, length, returns_verdict, take, ◌≡◌}
use Rattle.uni_audit.proofs.checker.check_returns.Given as goal

abbrev pub invariant-loop-returned : goal.invariant-loop-returned
invariant-loop-returned g l = record {
  long : length l.marks.items ≡ length l.check.replies.items;
  marked : (entries : List (Entry g.row.O-Inv.Denot g.row.O-Resp.Denot)) → HasGoneOver entries l.check → AreMarked entries (take l.returned-index l.returns) l.marks.items;
  rest : (entries : List (Entry g.row.O-Inv.Denot g.row.O-Resp.Denot)) → HasGoneOver entries l.check
      → returns_verdict g.O.Resp.PartialEq.eq entries (take l.returned-index l.returns) (drop l.returned-index l.returns) ≡ returns_verdict g.O.Resp.PartialEq.eq entries [] l.returns;
}

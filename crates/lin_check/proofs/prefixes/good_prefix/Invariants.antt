use Rattle.lin_check.proofs.Vocabulary.{IsLinearizableHistory, acts_of, length, take, ◌-◌, ◌≤◌}
use Rattle.lin_check.proofs.prefixes.good_prefix.Given as goal

abbrev pub invariant-loop-good : goal.invariant-loop-good
invariant-loop-good g l = record {
  order : l.good ≤ l.bad;
  within : l.bad ≤ length l.history;
  good_is : IsLinearizableHistory (g.O.SeqObject.sequential l.object) (g.O.SeqObject.sequential l.object).initial (acts_of (take l.good l.history));
  bad_is : ¬ (IsLinearizableHistory (g.O.SeqObject.sequential l.object) (g.O.SeqObject.sequential l.object).initial (acts_of (take l.bad l.history)));
}

abbrev pub decreases-loop-good : goal.decreases-loop-good
decreases-loop-good g l = l.bad - l.good

use Rattle.lin_check.specs.Parts.{events_of_part, part_of}
use Rattle.lin_check.proofs.Vocabulary.{drop, get_or, length, ◌++◌, ◌≡◌}
use Rattle.lin_check.proofs.part.part_of.Given as goal

-- the events so far, and those of the part that are left
abbrev pub invariant-loop-event : goal.invariant-loop-event
invariant-loop-event g l = record {
  many : length l.latest.items ≡ l.n;
  events : l.events.items ++ events_of_part g.O.Checkable.part l.part (λ q. get_or l.latest.items q 0) (drop l.event-index l.history)
      ≡ part_of g.O.Checkable.part l.part l.history;
}

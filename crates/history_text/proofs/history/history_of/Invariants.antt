use Rattle.std.proofs.Common.{◌≡◌, ℕ, map}
use Rattle.std.specs.Vec.Iter.{into_iter_items}
use Rattle.history_text.specs.Told.{events_of}
use Rattle.history_text.specs.Turns.{turn_at, turn_in}
use Rattle.history_text.specs.declared.turns.Turn.TheVariants.{Idle}
use Rattle.history_text.proofs.history.history_of.Given as goal

-- the events of what was told so far; and what each process can do after all is what it can do now after the rest
abbrev pub invariant-loop-placed : goal.invariant-loop-placed
invariant-loop-placed g l = record {
  events : l.history.events.items ≡ events_of (map (λ placed. placed.told) l.yielded);
  turns : (p : ℕ) → turn_in p Idle (map (λ placed. placed.told) (into_iter_items l.initial.placed-iterator))
      ≡ turn_in p (turn_at l.turns.turns.items p) (map (λ placed. placed.told) (into_iter_items l.placed-iterator));
}

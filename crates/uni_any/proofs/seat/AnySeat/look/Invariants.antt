use Rattle.std.specs.Prelude.{◌≡◌, ◌+◌, ◌*◌, ◌≤◌, ℕ}
use Rattle.uni_any.specs.Plays.{IsPending}
use Rattle.uni_any.specs.Seats.{IsKept, processes_of, view_in, word_steps_of}
use Rattle.uni_any.proofs.Looks.{LooksSo}
use Rattle.uni_any.proofs.seat.AnySeat.look.Given as goal

abbrev pub invariant-loop-r : goal.invariant-loop-r
invariant-loop-r g l =
    IsKept l.shared l.self × (l.r-end ≡ processes_of l.shared)
    × ((l.self.p ≡ l.fn.self.p) × (l.self.made ≡ l.fn.self.made) × (l.self.asked ≡ l.fn.self.asked) × (l.self.last ≡ l.fn.self.last))
    × ((inv : g.row.O-Inv.Denot) (tries : ℕ) → IsPending inv tries (view_in l.fn.self) → LooksSo g.O.SeqObject.sequential (view_in l.fn.self) inv tries l.word l.r (view_in l.self))
    × (word_steps_of l.self ≤ word_steps_of l.fn.self + (2 * l.r + 1))

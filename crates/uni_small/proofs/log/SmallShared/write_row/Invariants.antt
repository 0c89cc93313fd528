use Rattle.std.proofs.Common.{◌≡◌, List, ℕ, Option, ◌+◌}
use Rattle.uni_small.specs.Image.{Image}
use Rattle.uni_small.specs.View.Stage.{Writing}
use Rattle.uni_small.specs.Plays.{stage_of}
use Rattle.uni_small.specs.Standing.{GoesBy}
use Rattle.uni_small.proofs.log.SmallShared.write_row.Given as goal

abbrev pub invariant-loop-i : goal.invariant-loop-i
invariant-loop-i g l =
    (l.seat.table_id ≡ l.fn.seat.table_id) × (l.seat.id ≡ l.fn.seat.id)
    × ((image : Image) (seen : List (Option (List ℕ))) → stage_of l.fn.seat.me ≡ Writing l.tries l.s image seen l.from
    → GoesBy l.fn.seat.me l.i (Writing l.tries l.s image seen (l.from + l.i)) l.seat.me)

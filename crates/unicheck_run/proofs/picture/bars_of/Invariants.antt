use Rattle.std.proofs.Common.{◌≡◌, length, take}
use Rattle.unicheck_run.specs.Judged.{calls_of}
use Rattle.unicheck_run.proofs.picture.bars_of.Given as goal

-- a bar for each call of the events before
abbrev pub invariant-loop-place : goal.invariant-loop-place
invariant-loop-place g l = length l.bars.items ≡ calls_of (take l.place l.events)

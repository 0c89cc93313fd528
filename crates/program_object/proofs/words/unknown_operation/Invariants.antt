use Rattle.std.proofs.Common.{ℕ, ◌<◌, IsSome}
use Rattle.program_object.specs.Words.{spelled_at}
use Rattle.program_object.proofs.words.unknown_operation.Given as goal

abbrev pub invariant-loop-number : goal.invariant-loop-number
invariant-loop-number l = (k : ℕ) → k < l.number → IsSome (spelled_at l.words k)

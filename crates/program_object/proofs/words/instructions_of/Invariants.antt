use Rattle.std.proofs.Common.{◌≡◌, ℕ, ◌<◌, length, slice_get}
use Rattle.program_object.specs.Words.{spelled_at}
use Rattle.program_object.proofs.words.instructions_of.Given as goal

abbrev pub invariant-loop-number : goal.invariant-loop-number
invariant-loop-number l = record {
  made : length l.instructions.items ≡ l.number;
  each : (k : ℕ) → k < l.number → spelled_at l.words k ≡ slice_get l.instructions.items k;
}

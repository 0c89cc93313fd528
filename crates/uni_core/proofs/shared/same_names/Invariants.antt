use Rattle.std.proofs.Common.{◌≡◌, ◌<◌, ℕ, get_or, length}
use Rattle.uni_core.proofs.shared.same_names.Given as goal

abbrev pub invariant-loop-i : goal.invariant-loop-i
invariant-loop-i l = (length l.a ≡ length l.b) × ((k : ℕ) → k < l.i → get_or l.a k 0 ≡ get_or l.b k 0)

use Rattle.std.proofs.Common.{◌≡◌, ◌*◌, ◌≤◌, ℕ, vec_len}
use Rattle.std.specs.List.{All}
use Rattle.unibench_run.proofs.threads.replies_in.Given as goal

abbrev pub invariant-loop-told : goal.invariant-loop-told
invariant-loop-told l = (l.replies ≤ l.told-index * 4096) × ((each : ℕ) → All (λ told. vec_len told ≡ each) l.lists → l.replies ≡ l.told-index * each)

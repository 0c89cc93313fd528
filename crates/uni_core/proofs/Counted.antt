-- The bounds of a process's latest call, pending or returned.
use Rattle.uni_core.proofs.Vocabulary.{IsSome, IsWithinBound, None, Option, Some, arith, ℕ, ◌*◌, ◌+◌, ◌<◌, ◌≡◌, ◌≤◌}
use Rattle.uni_model.specs.Stages.{Pending}

module _ (n : ℕ) where
  pub bound_pending : (o : Option Pending) (begun among steps turns : ℕ) → IsWithinBound n o begun among steps turns → IsSome o → (among ≡ n) × (turns ≤ n + 1) × (steps < 10 * n + 12)
  bound_pending None begun among steps turns bound some = absurd (cc)
  bound_pending (Some c) begun among steps turns bound some = bound

  pub bound_returned : (o : Option Pending) (begun among steps turns : ℕ) → IsWithinBound n o begun among steps turns → o ≡ None → 1 ≤ begun → steps ≡ 2 * among + 4 + 8 * turns
  bound_returned None begun among steps turns bound none = bound.1
  bound_returned (Some c) begun among steps turns bound none = absurd (cc)

  pub bound_turns : (o : Option Pending) (begun among steps turns : ℕ) → IsWithinBound n o begun among steps turns → turns ≤ among + 1
  bound_turns None begun among steps turns bound = bound.0
  bound_turns (Some c) begun among steps turns bound = omega (arith, bound.0, bound.1)

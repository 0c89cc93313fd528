-- Tests that tell whether two values are the same.
use Rattle.std.specs.Prelude.{◌≡◌, ◌↔◌, ℕ, true, nat_eq}
use Rattle.std.proofs.Common.{arith}
use Rattle.std.proofs.lemmas.Bool.Decides.{nat_tests}

pub nat_eq_exact : (m n : ℕ) → (nat_eq m n ≡ true) ↔ (m ≡ n)
nat_eq_exact m n = (λ h. grind (arith, nat_tests), λ h. grind (arith, nat_tests))

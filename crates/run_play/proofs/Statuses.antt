-- The statuses with which the program ends.
use Rattle.run_play.proofs.Vocabulary.{Eras, Refused, Script, TooManyWorlds, arith, inl, inr, ℕ, ◌≡◌, ◌≢◌, ◌≤◌}
use Rattle.uni_script.specs.Statuses.{status_of, IsStatusOf}
use Rattle.uni_script.specs.declared.fault.BenchFault.{BenchFault}
use Rattle.uni_script.specs.declared.fault.BenchFault.TheVariants.{NoHeader, BadHeader, TooLong, BadByte, BadLine, TooMany, Read, Write, Memory, Audit}
use Rattle.run_play.specs.Fault.{IsStatusOfPlay}
use Rattle.run_play.specs.declared.fault.PlayFault.{PlayFault}

-- no fault ends with 0
least_status : (f : BenchFault) → 2 ≤ status_of f
least_status (NoHeader l) = omega arith
least_status (BadHeader l) = omega arith
least_status (TooLong l) = omega arith
least_status (BadByte l) = omega arith
least_status (BadLine l) = omega arith
least_status TooMany = omega arith
least_status Read = omega arith
least_status Write = omega arith
least_status Memory = omega arith
least_status (Audit verdict) = omega arith

pub not_0 : (f : PlayFault) (status : ℕ) → IsStatusOfPlay f status → status ≢ 0
not_0 Refused status is zero = omega arith
not_0 Eras status is zero = omega arith
not_0 TooManyWorlds status is zero = omega arith
not_0 (Script f) status is zero = elim is [
  | inl same ↦ let least = least_status f in omega arith
  | inr other ↦ let four = other.1 in omega arith
]

-- a writer that fails ends it with 3
pub of_write : (status : ℕ) → IsStatusOf Write status → status ≡ 3
of_write status is = elim is [
  | inl same ↦ same
  | inr other ↦ elim other.0 [ inl two ↦ absurd (omega arith) | inr five ↦ absurd (omega arith) ]
]

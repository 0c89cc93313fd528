-- When an era of a world can end.
use Rattle.std.specs.Prelude.{◌≡◌, ℕ, ◌+◌, ◌*◌, ◌<◌, ◌^◌, IsSome, None, refl}
use Rattle.std.proofs.Common.{arith}
use Rattle.uni_model.specs.Places.{seq_of}
use Rattle.uni_model.specs.Worlds.{WorldOf, IsQuiescent, opened_world, last_cell}
use Rattle.uni_core.specs.Refusals.{IsCount}
use Rattle.uni_core.specs.declared.fault.TrimFault.{TrimFault}
use Rattle.uni_core.specs.declared.fault.TrimFault.TheVariants as trim
use Rattle.uni_core.specs.declared.fault.ReshapeFault.{ReshapeFault}
use Rattle.uni_core.specs.declared.fault.ReshapeFault.TheVariants as reshape

-- the number of the last cell, which the next anchor gets
abbrev pub last_number : {S I R : Type 0} → WorldOf S I R → ℕ
last_number w = seq_of w.memory (last_cell w)

-- the numbers of an era of so many processes, with rows of so many calls, fit after this one
abbrev pub NumbersFit : {S I R : Type 0} → WorldOf S I R → (processes row : ℕ) → Type 0
NumbersFit w processes row = last_number w + processes * row < 2 ^ 48

-- p is the least process with a call pending
abbrev pub IsLeastPending : {S I R : Type 0} → WorldOf S I R → ℕ → Type 0
IsLeastPending w p = (p < w.n) × IsSome (w.call p) × ((q : ℕ) → q < p → w.call q ≡ None)

-- an era can end for m processes, with rows of so many calls: nobody has a call pending, and the numbers of the next one fit
abbrev pub CanEnd : {S I R : Type 0} → WorldOf S I R → (row m : ℕ) → Type 0
CanEnd w row m = IsQuiescent w × NumbersFit w m row

-- why it can't end for as many processes as there are
abbrev pub IsTrimRefused : {S I R : Type 0} → WorldOf S I R → (row : ℕ) → TrimFault → Type 0
IsTrimRefused w row (trim.Pending p) = IsLeastPending w p
IsTrimRefused w row trim.SeqFull = IsQuiescent w × ¬ (NumbersFit w w.n row)

-- why it can't end for m processes: memory only where nothing else refuses it
abbrev pub IsReshapeRefused : {S I R : Type 0} → WorldOf S I R → (row m : ℕ) → ReshapeFault → Type 0
IsReshapeRefused w row m reshape.BadCount = ¬ (IsCount m)
IsReshapeRefused w row m (reshape.Pending p) = IsCount m × IsLeastPending w p
IsReshapeRefused w row m reshape.SeqFull = IsCount m × IsQuiescent w × ¬ (NumbersFit w m row)
IsReshapeRefused w row m reshape.Memory = IsCount m × CanEnd w row m

-- two processes whose list is an anchor with a number
abbrev sample : (number : ℕ) → WorldOf ℕ ℕ ℕ
sample number = opened_world 2 9 number

sample_last_number : last_number (sample 281474976710647) ≡ 281474976710647
sample_last_number = refl

-- the last of eight more numbers is 2^48 - 1, and then one more
eight_numbers_fit : NumbersFit (sample 281474976710647) 2 4
eight_numbers_fit = omega arith

eight_numbers_pass_the_last : ¬ (NumbersFit (sample 281474976710648) 2 4)
eight_numbers_pass_the_last = λ fit. omega arith

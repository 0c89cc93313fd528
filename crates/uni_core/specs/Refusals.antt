-- Why a world isn't opened, and why it refuses a call or a step: of each the first reason that holds.
use Rattle.std.specs.Prelude.{◌≡◌, ℕ, ◌+◌, ◌*◌, ◌<◌, ◌≤◌, ◌^◌, None, IsSome}
use Rattle.std.proofs.Common.{arith}
use Rattle.uni_model.specs.Worlds.{WorldOf, calls_in_era}
use Rattle.uni_core.specs.declared.fault.OpenFault.{OpenFault}
use Rattle.uni_core.specs.declared.fault.OpenFault.TheVariants as opening
use Rattle.uni_core.specs.declared.fault.BeginFault.{BeginFault}
use Rattle.uni_core.specs.declared.fault.BeginFault.TheVariants as begin
use Rattle.uni_core.specs.declared.fault.StepFault.{StepFault}
use Rattle.uni_core.specs.declared.fault.StepFault.TheVariants as step
use Rattle.uni_core.specs.World.{IsIdle, MayNeedMemory}

-- how many processes there can be
abbrev pub IsCount : ℕ → Type 0
IsCount n = (1 ≤ n) × (n ≤ 64)

-- how many calls a row can have
abbrev pub IsRow : ℕ → Type 0
IsRow k = (1 ≤ k) × (k ≤ 4096)

-- n processes with rows of k calls can start from this number: those of an era stay below 2^48
abbrev pub CanOpen : (n k number : ℕ) → Type 0
CanOpen n k number = IsCount n × IsRow k × (number + n * k < 2 ^ 48)

-- why they can't: memory only where nothing else refuses it
abbrev pub IsOpenRefused : (n k number : ℕ) → OpenFault → Type 0
IsOpenRefused n k number opening.BadCount = ¬ (IsCount n)
IsOpenRefused n k number opening.BadRow = IsCount n × ¬ (IsRow k)
IsOpenRefused n k number opening.SeqFull = IsCount n × IsRow k × (2 ^ 48 ≤ number + n * k)
IsOpenRefused n k number opening.Memory = CanOpen n k number

-- a process can begin a call: it has none pending, and room in its row
abbrev pub CanCall : {S I R : Type 0} → WorldOf S I R → (row p : ℕ) → Type 0
CanCall w row p = (p < w.n) × (w.call p ≡ None) × (calls_in_era w p < row)

-- why it can't: memory only where nothing else refuses it
abbrev pub IsBeginRefused : {S I R : Type 0} → WorldOf S I R → (row p : ℕ) → BeginFault → Type 0
IsBeginRefused w row p begin.BadProcess = w.n ≤ p
IsBeginRefused w row p (begin.Busy q) = (q ≡ p) × (p < w.n) × IsSome (w.call p)
IsBeginRefused w row p (begin.RowFull q) = (q ≡ p) × (p < w.n) × (w.call p ≡ None) × (calls_in_era w p ≡ row)
IsBeginRefused w row p begin.Memory = CanCall w row p

-- a process has a step to take
abbrev pub CanGo : {S I R : Type 0} → WorldOf S I R → (p : ℕ) → Type 0
CanGo w p = (p < w.n) × IsSome (w.call p)

-- why it hasn't, or memory: only where the step decides the state and the response of a cell that has none yet
abbrev pub IsStepRefused : {S I R : Type 0} → WorldOf S I R → (p : ℕ) → StepFault → Type 0
IsStepRefused w p step.BadProcess = w.n ≤ p
IsStepRefused w p (step.Idle q) = (q ≡ p) × IsIdle w p
IsStepRefused w p step.Memory = CanGo w p × MayNeedMemory w p

-- 1 to 64 processes
one_process_is_a_count : IsCount 1
one_process_is_a_count = (omega arith, omega arith)

sixty_four_processes_are_a_count : IsCount 64
sixty_four_processes_are_a_count = (omega arith, omega arith)

no_process_is_none : ¬ (IsCount 0)
no_process_is_none = λ count. let least = count.0 in omega arith

sixty_five_processes_are_none : ¬ (IsCount 65)
sixty_five_processes_are_none = λ count. let most = count.1 in omega arith

-- rows of 1 to 4096 calls
rows_of_4096_are_rows : IsRow 4096
rows_of_4096_are_rows = (omega arith, omega arith)

rows_of_4097_are_none : ¬ (IsRow 4097)
rows_of_4097_are_none = λ row. let most = row.1 in omega arith

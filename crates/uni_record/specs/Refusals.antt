-- Why a record isn't opened, and why it refuses a call, a step or the end of an era: of each the first reason that holds.
use Rattle.std.specs.Prelude.{◌≡◌, ℕ, ◌+◌, ◌*◌, ◌≤◌, ◌<◌, ◌^◌, None, IsSome, length, refl}
use Rattle.std.proofs.Common.{arith}
use Rattle.uni_model.specs.Worlds.{WorldOf, calls_in_era, IsQuiescent, opened_world}
use Rattle.uni_core.specs.World.{world_of, IsIdle, MayNeedMemory}
use Rattle.uni_core.specs.Refusals.{IsCount, IsRow, CanOpen, CanCall, CanGo}
use Rattle.uni_core.specs.declared.fault.OpenFault.{OpenFault}
use Rattle.uni_core.specs.declared.fault.OpenFault.TheVariants as first
use Rattle.uni_core.specs.Ends.{NumbersFit, IsLeastPending}
use Rattle.uni_record.specs.declared.fault.RecordOpenFault.{RecordOpenFault}
use Rattle.uni_record.specs.declared.fault.RecordOpenFault.TheVariants as opening_fault
use Rattle.uni_record.specs.declared.fault.RecordBeginFault.{RecordBeginFault}
use Rattle.uni_record.specs.declared.fault.RecordBeginFault.TheVariants as begin
use Rattle.uni_record.specs.declared.fault.RecordStepFault.{RecordStepFault}
use Rattle.uni_record.specs.declared.fault.RecordStepFault.TheVariants as step
use Rattle.uni_record.specs.declared.fault.RecordTrimFault.{RecordTrimFault}
use Rattle.uni_record.specs.declared.fault.RecordTrimFault.TheVariants as trim
use Rattle.uni_record.specs.declared.fault.RecordReshapeFault.{RecordReshapeFault}
use Rattle.uni_record.specs.declared.fault.RecordReshapeFault.TheVariants as reshape
use Rattle.uni_record.specs.Recorded.{Recording, set_aside, share}

-- how many events a history can have
abbrev pub IsHistoryLimit : (limit : ℕ) → Type 0
IsHistoryLimit limit = (1 ≤ limit) × (limit ≤ 16777216)

-- a record can be opened: its first world can, and the history can have so many events
abbrev pub CanRecord : (n k number limit : ℕ) → Type 0
CanRecord n k number limit = CanOpen n k number × IsHistoryLimit limit

-- why it can't: memory only where nothing else refuses it
abbrev pub IsOpenRefused : (n k number limit : ℕ) → RecordOpenFault → Type 0
IsOpenRefused n k number limit opening_fault.BadCount = ¬ (IsCount n)
IsOpenRefused n k number limit opening_fault.BadRow = IsCount n × ¬ (IsRow k)
IsOpenRefused n k number limit opening_fault.SeqFull = IsCount n × IsRow k × (2 ^ 48 ≤ number + n * k)
IsOpenRefused n k number limit opening_fault.BadHistory = CanOpen n k number × ¬ (IsHistoryLimit limit)
IsOpenRefused n k number limit opening_fault.Memory = CanRecord n k number limit

-- the fault of a record whose first world isn't opened
abbrev pub record_fault : OpenFault → RecordOpenFault
record_fault first.BadCount = opening_fault.BadCount
record_fault first.BadRow = opening_fault.BadRow
record_fault first.SeqFull = opening_fault.SeqFull
record_fault first.Memory = opening_fault.Memory

-- what a record's answers depend on: its world, how many calls a row has, how many events are stored, and how many there can be
pub record Standing (S I R : Type 0) : Type 0 where
  pub world : WorldOf S I R
  pub row : ℕ
  pub stored : ℕ
  pub limit : ℕ

abbrev pub standing_of : {O S I R : Type 0} → Recording O S I R → Standing S I R
standing_of r = record { world = world_of r.world; row = r.world.row; stored = length r.events; limit = r.limit }

-- a process can begin a call: it has none pending and room in its row, and the events of the call fit into the history beside those
-- that are stored and set aside
abbrev pub CanBegin : {S I R : Type 0} → Standing S I R → (p : ℕ) → Type 0
CanBegin s p = CanCall s.world s.row p × (s.stored + set_aside s.world + share s.world.n ≤ s.limit)

-- why a call is refused: memory only where nothing else refuses it
abbrev pub IsBeginRefused : {S I R : Type 0} → Standing S I R → (p : ℕ) → RecordBeginFault → Type 0
IsBeginRefused s p begin.BadProcess = s.world.n ≤ p
IsBeginRefused s p (begin.Busy q) = (q ≡ p) × (p < s.world.n) × IsSome (s.world.call p)
IsBeginRefused s p (begin.RowFull q) = (q ≡ p) × (p < s.world.n) × (s.world.call p ≡ None) × (calls_in_era s.world p ≡ s.row)
IsBeginRefused s p begin.HistoryFull = CanCall s.world s.row p × (s.limit < s.stored + set_aside s.world + share s.world.n)
IsBeginRefused s p begin.Memory = CanBegin s p

-- why a step is refused: memory only where the step decides the state and the response of a cell that has none yet
abbrev pub IsStepRefused : {S I R : Type 0} → Standing S I R → (p : ℕ) → RecordStepFault → Type 0
IsStepRefused s p step.BadProcess = s.world.n ≤ p
IsStepRefused s p (step.Idle q) = (q ≡ p) × IsIdle s.world p
IsStepRefused s p step.Memory = CanGo s.world p × MayNeedMemory s.world p

-- an era can end for m processes: nobody has a call pending, the numbers of the next one fit, and the history has room for an event
abbrev pub CanEnd : {S I R : Type 0} → Standing S I R → (m : ℕ) → Type 0
CanEnd s m = IsQuiescent s.world × NumbersFit s.world m s.row × (s.stored + 1 ≤ s.limit)

-- Why the end of an era for m processes is refused; a trim is one for as many as there are. Each reason holds where
-- none before it does; memory only where nothing else refuses it.
abbrev pub IsEndRefused : {S I R : Type 0} → Standing S I R → (m : ℕ) → RecordTrimFault → Type 0
IsEndRefused s m (trim.Pending p) = IsLeastPending s.world p
IsEndRefused s m trim.SeqFull = IsQuiescent s.world × ¬ (NumbersFit s.world m s.row)
IsEndRefused s m trim.HistoryFull = IsQuiescent s.world × NumbersFit s.world m s.row × (s.limit < s.stored + 1)
IsEndRefused s m trim.Memory = CanEnd s m

-- why a reshape to m processes is refused
abbrev pub IsReshapeRefused : {S I R : Type 0} → Standing S I R → (m : ℕ) → RecordReshapeFault → Type 0
IsReshapeRefused s m reshape.BadCount = ¬ (IsCount m)
IsReshapeRefused s m (reshape.Pending p) = IsCount m × IsEndRefused s m (trim.Pending p)
IsReshapeRefused s m reshape.SeqFull = IsCount m × IsEndRefused s m trim.SeqFull
IsReshapeRefused s m reshape.HistoryFull = IsCount m × IsEndRefused s m trim.HistoryFull
IsReshapeRefused s m reshape.Memory = IsCount m × CanEnd s m

-- 1 to 16,777,216 events
one_event_is_a_history : IsHistoryLimit 1
one_event_is_a_history = (omega arith, omega arith)

events_up_to_16777216_are_a_history : IsHistoryLimit 16777216
events_up_to_16777216_are_a_history = (omega arith, omega arith)

no_event_is_none : ¬ (IsHistoryLimit 0)
no_event_is_none = λ history. let least = history.0 in omega arith

events_up_to_16777217_are_none : ¬ (IsHistoryLimit 16777217)
events_up_to_16777217_are_none = λ history. let most = history.1 in omega arith

-- one process with so many events stored, of so many that there can be
abbrev sample : (stored limit : ℕ) → Standing ℕ ℕ ℕ
sample stored limit = record { world = opened_world 1 9 1; row = 8; stored = stored; limit = limit }

a_call_fits_into_23_events : CanBegin (sample 0 23) 0
a_call_fits_into_23_events = ((omega arith, refl, omega arith), omega arith)

a_call_is_too_much_for_22 : IsBeginRefused (sample 0 22) 0 begin.HistoryFull
a_call_is_too_much_for_22 = ((omega arith, refl, omega arith), omega arith)

an_era_ends_by_the_last_event : CanEnd (sample 22 23) 1
an_era_ends_by_the_last_event = (λ p _. refl, omega arith, omega arith)

an_era_cannot_end_in_a_full_history : IsEndRefused (sample 23 23) 1 trim.HistoryFull
an_era_cannot_end_in_a_full_history = (λ p _. refl, omega arith, omega arith)

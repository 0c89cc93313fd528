-- When the receipts of a process agree with a history, and what a closed record is.
use Rattle.std.specs.Prelude.{◌≡◌, ◌≢◌, ◌⊎◌, ℕ, ◌<◌, ◌≤◌, ◌==◌, if◌then◌else◌, List, [], ◌∷◌}
use Rattle.std.specs.Prelude.{Option, Some, None, IsSome, map, replicate, refl, slice_get}
use Rattle.std.specs.List.{All, Contains, count_by, filter, filter_map}
use Rattle.seq_object.specs.declared.call_id.CallId.{CallId}
use Rattle.seq_object.specs.Sequential.{Sequential}
use Rattle.uni_model.specs.Worlds.{WorldOf, IsQuiescent, opened_world}
use Rattle.uni_core.specs.World.{world_of}
use Rattle.uni_record.specs.declared.event.Event.{Event as Stored}
use Rattle.uni_record.specs.declared.event.Event.TheVariants.{Call, Step, Trim, Reshape}
use Rattle.uni_record.specs.Event.{Completed, completed_in, events_shown}
use Rattle.uni_record.specs.Recorded.{Recording, meaning, opening}
use Rattle.uni_shared.specs.declared.closed.CloseFault.{CloseFault}
use Rattle.uni_shared.specs.declared.closed.CloseFault.TheVariants.{Memory, Mismatch, MissingSeat, PendingSeat}
use Rattle.uni_shared.specs.declared.closed.CloseFault.TheVariants.{Stranger}
use Rattle.uni_shared.specs.declared.receipt.Receipt.{Receipt}
use Rattle.uni_shared.specs.Seat.{SeatOf, first_seat}

-- what a call of this process asks for, where the event is one
abbrev pub invocation_by : {I : Type 0} → ℕ → Stored I → Option I
invocation_by p (Call q i) = if q == p then Some i else None
invocation_by p (Step q) = None
invocation_by p Trim = None
invocation_by p (Reshape n) = None

-- those of the calls that have returned that are of a process
abbrev pub completed_of_process : {R : Type 0} → ℕ → List (Completed R) → List (Completed R)
completed_of_process p calls = filter (λ c. c.returned.call.process == p) calls

-- the return of which a receipt tells, with its counts
abbrev pub completed_of : {I R : Type 0} → Receipt I R → Completed R
completed_of r = record {
  returned = record { call = r.call; reply = r.reply };
  counts = record { steps = r.steps; turns = r.turns };
}

-- The receipts are the calls of a process in a run, in order, none missing and none more: each with what it asked for,
-- with the reply of its return, and with its own steps and turns.
pub record Agrees {S I R : Type 0} (object : Sequential S I R) (first : WorldOf S I R) (events : List (Stored I))
    (p : ℕ) (receipts : List (Receipt I R)) : Type 0 where
  pub invocations : map (λ r. r.inv) receipts ≡ filter_map (invocation_by p) events
  pub completed : map completed_of receipts ≡ completed_of_process p (completed_in object first (events_shown events))

-- the receipts of a seat agree with the events of a record
abbrev pub SeatAgrees : {O S I R : Type 0} → (O → Sequential S I R) → Recording O S I R → SeatOf I R → Type 0
SeatAgrees sequential recorded seat =
    Agrees (meaning sequential recorded) (opening sequential recorded) recorded.events seat.process seat.receipts

-- how many of these seats are of a process
abbrev pub seats_of : {I R : Type 0} → ℕ → List (SeatOf I R) → ℕ
seats_of p seats = count_by (λ s. s.process == p) seats

-- Each process has one seat there and there is no other; no call is pending, in a seat or in the world; and the
-- receipts of each seat agree with the stored events.
pub record IsClosed {O S I R : Type 0} (sequential : O → Sequential S I R) (recorded : Recording O S I R)
    (seats : List (SeatOf I R)) : Type 0 where
  pub each : (p : ℕ) → p < recorded.processes → seats_of p seats ≡ 1
  pub only : All (λ s. s.process < recorded.processes) seats
  pub idle : All (λ s. s.pending ≡ None) seats
  pub quiet : IsQuiescent (world_of recorded.world)
  pub agree : All (SeatAgrees sequential recorded) seats

-- the least number of which something holds
pub record IsLeast (P : ℕ → Type 0) (p : ℕ) : Type 0 where
  pub holds : P p
  pub least : (q : ℕ) → q < p → ¬ (P q)

-- a process among so many doesn't have its seat there exactly once, or another one has a seat there
abbrev pub IsMissing : {I R : Type 0} → ℕ → List (SeatOf I R) → ℕ → Type 0
IsMissing n seats p = ((p < n) × (seats_of p seats ≢ 1)) ⊎ ((n ≤ p) × (seats_of p seats ≢ 0))

-- a process has a call pending, in the world or in a seat
abbrev pub IsBusy : {S I R : Type 0} → WorldOf S I R → List (SeatOf I R) → ℕ → Type 0
IsBusy {I = I} {R = R} w seats p =
    ((p < w.n) × IsSome (w.call p))
    ⊎ ((seat : SeatOf I R) × Contains seats seat × (seat.process ≡ p) × IsSome seat.pending)

-- two lists are the same at a place
abbrev pub IsSameAt : {A : Type 0} → List A → List A → ℕ → Type 0
IsSameAt xs ys j = slice_get xs j ≡ slice_get ys j

-- this is the first place at which they aren't
abbrev pub DiffersFirstAt : {A : Type 0} → List A → List A → ℕ → Type 0
DiffersFirstAt xs ys j = ¬ (IsSameAt xs ys j) × ((i : ℕ) → i < j → IsSameAt xs ys i)

-- the receipts of a process are its calls in a run, at this place of both
abbrev pub AgreesAt : {S I R : Type 0} → Sequential S I R → WorldOf S I R → List (Stored I) → ℕ → List (Receipt I R) → ℕ
    → Type 0
AgreesAt object first events p receipts j =
    IsSameAt (map (λ r. r.inv) receipts) (filter_map (invocation_by p) events) j
    × IsSameAt (map completed_of receipts) (completed_of_process p (completed_in object first (events_shown events))) j

abbrev pub SeatAgreesAt : {O S I R : Type 0} → (O → Sequential S I R) → Recording O S I R → SeatOf I R → ℕ → Type 0
SeatAgreesAt sequential recorded seat =
    AgreesAt (meaning sequential recorded) (opening sequential recorded) recorded.events seat.process seat.receipts

-- this is the first call of a seat's process at which its receipts differ from the stored events
pub record IsMismatchOf {O S I R : Type 0} (sequential : O → Sequential S I R) (recorded : Recording O S I R)
    (seat : SeatOf I R) (call : CallId) : Type 0 where
  pub process : seat.process ≡ call.process
  pub differs : ¬ (SeatAgreesAt sequential recorded seat call.nth)
  pub same : (j : ℕ) → j < call.nth → SeatAgreesAt sequential recorded seat j

-- the first such call by process and then by number, among these seats
pub record IsFirstMismatch {O S I R : Type 0} (sequential : O → Sequential S I R) (recorded : Recording O S I R)
    (seats : List (SeatOf I R)) (call : CallId) : Type 0 where
  pub seat : SeatOf I R
  pub there : Contains seats seat
  pub mismatch : IsMismatchOf sequential recorded seat call
  pub before : All (λ s. s.process < call.process → SeatAgrees sequential recorded s) seats

-- each of n processes has its seat there once, and no other has one
abbrev pub AreAllThere : {I R : Type 0} → ℕ → List (SeatOf I R) → Type 0
AreAllThere n seats = (q : ℕ) → ¬ (IsMissing n seats q)

-- why a record and seats of n processes aren't closed: the first of these that holds
abbrev pub IsFaultOfClosing : {O S I R : Type 0} → (O → Sequential S I R) → (n : ℕ) → Recording O S I R
    → List (SeatOf I R) → CloseFault → Type 0
IsFaultOfClosing sequential n recorded seats (MissingSeat p) = IsLeast (IsMissing n seats) p
IsFaultOfClosing sequential n recorded seats Stranger = AreAllThere n seats × (recorded.processes ≢ n)
IsFaultOfClosing sequential n recorded seats (PendingSeat p) =
    AreAllThere n seats × (recorded.processes ≡ n) × IsLeast (IsBusy (world_of recorded.world) seats) p
IsFaultOfClosing sequential n recorded seats (Mismatch call) =
    AreAllThere n seats × (recorded.processes ≡ n) × ((q : ℕ) → ¬ (IsBusy (world_of recorded.world) seats q))
    × IsFirstMismatch sequential recorded seats call
IsFaultOfClosing sequential n recorded seats Memory = ⊥

-- a record under a lock: how many processes it was opened for
pub record SharedOf : Type 0 where
  pub processes : ℕ

-- a closed record: the record, and the seats with their receipts
pub record ClosedOf (O S I R : Type 0) : Type 0 where
  pub recorded : Recording O S I R
  pub seats : List (SeatOf I R)

-- one process and an object that keeps the last number and answers the one before, from 9; the receipt of a call that
-- asked for 7
abbrev sample : Sequential ℕ ℕ ℕ
sample = record { initial = 9; next = λ s i. i; answer = λ s i. s }

abbrev sample_receipt : ℕ → Receipt ℕ ℕ
sample_receipt reply = record { call = record { process = 0; nth = 0 }; inv = 7; reply = reply; steps = 14; turns = 1 }

abbrev sample_stored : List (Stored ℕ)
sample_stored = Call 0 7 ∷ replicate 14 (Step 0)

sample_agrees : Agrees sample (opened_world 1 9 1) sample_stored 0 (sample_receipt 9 ∷ [])
sample_agrees = record { invocations = refl; completed = refl }

sample_other_process : Agrees sample (opened_world 1 9 1) sample_stored 1 []
sample_other_process = record { invocations = refl; completed = refl }

sample_agrees_at : AgreesAt sample (opened_world 1 9 1) sample_stored 0 (sample_receipt 9 ∷ []) 0
sample_agrees_at = (refl, refl)

-- what the history has beside a receipt that tells another reply, and nothing beside a second receipt
sample_returned :
    slice_get (completed_of_process 0 (completed_in sample (opened_world 1 9 1) (events_shown sample_stored))) 0
    ≡ Some (completed_of (sample_receipt 9))
sample_returned = refl

sample_ended : slice_get (filter_map (invocation_by 0) sample_stored) 1 ≡ None
sample_ended = refl

-- a seat that is there twice, and one that isn't there
sample_twice : seats_of {I = ℕ} {R = ℕ} 0 (first_seat 2 0 ∷ first_seat 2 0 ∷ []) ≡ 2
sample_twice = refl

sample_missing : seats_of {I = ℕ} {R = ℕ} 1 (first_seat 2 0 ∷ first_seat 2 0 ∷ []) ≡ 0
sample_missing = refl

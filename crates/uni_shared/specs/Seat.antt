-- What a contract sees of a seat, and what its calls leave of it.
use Rattle.std.specs.Prelude.{◌≡◌, ℕ, ◌<◌, ◌≤◌, ◌⊎◌, List, [], ◌∷◌, ◌++◌, Option, Some, None, IsSome}
use Rattle.std.specs.Prelude.{length, option_map, map, refl}
use Rattle.std.specs.List.{range_with_len}
use Rattle.seq_object.specs.declared.call_id.CallId.{CallId}
use Rattle.uni_shared.specs.declared.fault.ApplyFault.{ApplyFault}
use Rattle.uni_shared.specs.declared.fault.ApplyFault.TheVariants.{Memory, GaveUp, Stranger}
use Rattle.uni_shared.specs.declared.receipt.Receipt.{Receipt}
use Rattle.uni_shared.specs.declared.receipt.PendingCall.{PendingCall}

-- its process, and how many processes there were at its opening; its pending call; the receipts of its calls, in order
pub record SeatOf (I R : Type 0) : Type 0 where
  pub process : ℕ
  pub processes : ℕ
  pub pending : Option (PendingCall I)
  pub receipts : List (Receipt I R)

-- a seat of one of n processes that has made no call
abbrev pub first_seat : {I R : Type 0} → (n p : ℕ) → SeatOf I R
first_seat n p = record { process = p; processes = n; pending = None; receipts = [] }

-- those of an opening, in order
abbrev pub first_seats : {I R : Type 0} → (n : ℕ) → List (SeatOf I R)
first_seats n = map (first_seat n) (range_with_len 0 n)

-- which call of a seat is pending, and what it asks for
abbrev pub call_of : {I R : Type 0} → SeatOf I R → Option CallId
call_of {I = I} seat = option_map (λ (c : PendingCall I). c.call) seat.pending

abbrev pub inv_of : {I R : Type 0} → SeatOf I R → Option I
inv_of {I = I} seat = option_map (λ (c : PendingCall I). c.inv) seat.pending

-- a seat's call has ended: it has this receipt more, and no call pending
pub record HasEnded {I R : Type 0} (old : SeatOf I R) (receipt : Receipt I R) (new : SeatOf I R) : Type 0 where
  pub process : new.process ≡ old.process
  pub processes : new.processes ≡ old.processes
  pub pending : new.pending ≡ None
  pub receipts : new.receipts ≡ old.receipts ++ receipt ∷ []

-- a seat that had no call pending has begun one that asks for this
pub record HasBegun {I R : Type 0} (old : SeatOf I R) (inv : I) (new : SeatOf I R) : Type 0 where
  pub process : new.process ≡ old.process
  pub processes : new.processes ≡ old.processes
  pub idle : old.pending ≡ None
  pub asks : inv_of new ≡ Some inv
  pub receipts : new.receipts ≡ old.receipts

-- a seat has the call pending that it had, or none where it had none
pub record HasStopped {I R : Type 0} (old new : SeatOf I R) : Type 0 where
  pub process : new.process ≡ old.process
  pub processes : new.processes ≡ old.processes
  pub call : call_of new ≡ call_of old
  pub asks : inv_of new ≡ inv_of old
  pub receipts : new.receipts ≡ old.receipts

-- What apply leaves where it ends with a fault. `GaveUp`: the call is pending. `Memory` or `Stranger`: the call is
-- pending, or the seat is as it was; its `pending` tells which. Any other fault: the seat is as it was.
abbrev pub IsLeftByApply : {I R : Type 0} → SeatOf I R → I → ApplyFault → SeatOf I R → Type 0
IsLeftByApply old inv GaveUp new = HasBegun old inv new
IsLeftByApply old inv Memory new = (new ≡ old) ⊎ HasBegun old inv new
IsLeftByApply old inv Stranger new = (new ≡ old) ⊎ HasBegun old inv new
IsLeftByApply old inv _ new = new ≡ old

-- the receipt is of the call that was pending
pub record IsReceiptOf {I R : Type 0} (old : SeatOf I R) (receipt : Receipt I R) : Type 0 where
  pub call : call_of old ≡ Some receipt.call
  pub asks : inv_of old ≡ Some receipt.inv

-- the call is of the seat's process, and the one after those that the seat has receipts of
pub record IsNextCallOf {I R : Type 0} (old : SeatOf I R) (call : CallId) : Type 0 where
  pub process : call.process ≡ old.process
  pub nth : call.nth ≡ length old.receipts

-- why a call that had begun hasn't ended
abbrev pub IsCause : ApplyFault → Type 0
IsCause fault = (fault ≡ GaveUp) ⊎ (fault ≡ Stranger) ⊎ (fault ≡ Memory)

-- the invariant: the process is one of at most 64, and where a call is pending there is room for its receipt
pub record IsSeat {I : Type 0} (pending : Option (PendingCall I)) (process processes stored for_receipts : ℕ)
    : Type 0 where
  pub below : process < processes
  pub few : processes ≤ 64
  pub room : IsSome pending → stored < for_receipts

sample_first : first_seats {I = ℕ} {R = ℕ} 2 ≡ first_seat 2 0 ∷ first_seat 2 1 ∷ []
sample_first = refl

-- A history kept in a byte an event: the codes of its events, and beside them what its calls ask for, in order.
use Rattle.std.specs.Prelude.{◌≡◌, ℕ, ◌+◌, ◌-◌, ◌≤◌, ◌<◌, List, [], ◌∷◌, ◌++◌, nat_lt, nat_eq, cond}
use Rattle.std.specs.Prelude.{length, drop, map, refl}
use Rattle.std.specs.List.{flat_map}
use Rattle.uni_record.specs.declared.event.Event.{Event as Stored}
use Rattle.uni_record.specs.declared.event.Event.TheVariants.{Call, Step, Trim, Reshape}

-- the code of an event
abbrev pub code_of : {I : Type 0} → Stored I → ℕ
code_of (Step p) = p
code_of (Call p i) = 64 + p
code_of Trim = 128
code_of (Reshape n) = 128 + n

-- an event whose code no other event has: at most 64 processes, and after a reshape at least one
abbrev pub HasCode : {I : Type 0} → Stored I → Type 0
HasCode (Step p) = p < 64
HasCode (Call p i) = p < 64
HasCode Trim = Unit {0}
HasCode (Reshape n) = (1 ≤ n) × (n ≤ 64)

-- what an event asks for, where it is a call
abbrev pub asked_by : {I : Type 0} → Stored I → List I
asked_by (Call p i) = i ∷ []
asked_by (Step p) = []
asked_by Trim = []
asked_by (Reshape n) = []

-- how many invocations belong to a code
abbrev pub asking : ℕ → ℕ
asking code = cond (nat_lt code 64) 0 (cond (nat_lt code 128) 1 0)

-- a call of process p with the first invocation
abbrev pub call_with : {I : Type 0} → ℕ → List I → List (Stored I)
call_with p [] = []
call_with p (i ∷ invocations) = Call p i ∷ []

-- the event of a code, a call with the first of the invocations
abbrev pub event_with : {I : Type 0} → ℕ → List I → List (Stored I)
event_with code invocations =
    cond (nat_lt code 64) (Step code ∷ []) (cond (nat_lt code 128) (call_with (code - 64) invocations)
    (cond (nat_eq code 128) (Trim ∷ []) (Reshape (code - 128) ∷ [])))

-- the events of these codes
abbrev pub unpacked : {I : Type 0} → List ℕ → List I → List (Stored I)
unpacked [] invocations = []
unpacked (code ∷ codes) invocations = event_with code invocations ++ unpacked codes (drop (asking code) invocations)

-- each code of a call has its invocation
abbrev pub asking_in : List ℕ → ℕ
asking_in [] = 0
asking_in (code ∷ codes) = asking code + asking_in codes

abbrev pub ArePacked : {I : Type 0} → List ℕ → List I → Type 0
ArePacked codes invocations = asking_in codes ≡ length invocations

-- what a packed history is for the rest of the crate: its events, and for how many events, and how many more calls, there is room
pub record Kept (I : Type 0) : Type 0 where
  pub events : List (Stored I)
  pub room : ℕ
  pub room_for_calls : ℕ

-- a call, a step, another call, a trim and a reshape to 64
abbrev sample_events : List (Stored ℕ)
sample_events = Call 0 7 ∷ Step 0 ∷ Call 63 9 ∷ Trim ∷ Reshape 64 ∷ []

sample_codes : map code_of sample_events ≡ 64 ∷ 0 ∷ 127 ∷ 128 ∷ 192 ∷ []
sample_codes = refl

sample_unpacked : unpacked (map code_of sample_events) (flat_map asked_by sample_events) ≡ sample_events
sample_unpacked = refl

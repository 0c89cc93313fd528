-- What a handle's value is to a caller of a small object.
use Rattle.std.specs.Prelude.{◌≡◌, ◌≢◌, ◌⊎◌, ◌↔◌, ℕ, ◌+◌, ◌<◌, ◌≤◌, ◌++◌, ◌∷◌, List, [], length, vec_len, IsSomeAnd}
use Rattle.std.specs.declared.option.Option.{Option}
use Rattle.std.specs.declared.option.Option.TheVariants.{None, Some}
use Rattle.uni_small.specs.Belongs.{calls_made, calls_of, invocation_width_of, known_calls, object_of, own_calls, process_of, processes_of}
use Rattle.uni_small.specs.Belongs.{reply_width_of, sizes_of, taken_calls, version_of, width_of, word_steps_of}
use Rattle.uni_small.specs.Final.{IsAnswerAt, HasHistory}
use Rattle.uni_small.specs.Invariant.{most_calls}
use Rattle.uni_small.specs.Standing.{call_steps, read_steps}
use Rattle.uni_small.specs.View.{ProcessReturned}
use Rattle.uni_small.specs.declared.log.SmallShared.{SmallShared}
use Rattle.uni_small.specs.declared.seat.SmallSeat.{SmallSeat}
use Rattle.universal_c.specs.SmallMeaning.{small_meaning, small_sizes}
use Rattle.universal_c.specs.declared.held.Held.{Held}
use Rattle.universal_c.specs.declared.held.Held.TheVariants.{Small, Place}
use Rattle.universal_c.specs.declared.small_kind.SmallKind.{SmallKind}

-- the small object that a handle has, or whose seat it has
abbrev pub shared_in : Option Held → Option (SmallShared SmallKind)
shared_in (Some (Small s)) = Some s.shared.value
shared_in (Some (Place p)) = Some p.shared.value
shared_in _ = None

-- how many seats of its small object a handle has still to give out
abbrev pub small_left_in : Option Held → Option ℕ
small_left_in (Some (Small s)) = Some (vec_len s.seats)
small_left_in _ = None

-- the seat of a small object that a handle has
abbrev pub place_in : Option Held → Option (SmallSeat SmallKind)
place_in (Some (Place p)) = Some p.seat
place_in _ = None

-- the calls of which a handle knows: those of its seat
abbrev pub known_in : Option Held → List ProcessReturned
known_in (Some (Place p)) = known_calls p.seat
known_in _ = []

-- a small object of this kind, for as many processes, none of whose seats was given out
abbrev pub HasOpenedSmall : (new : Option Held) → SmallKind → (n : ℕ) → Type 0
HasOpenedSmall new kind n = IsSomeAnd (shared_in new) (λ shared. (object_of shared ≡ kind) × (sizes_of shared ≡ small_sizes kind n))
    × (small_left_in new ≡ Some n)

-- a seat of this process, which has made no call
abbrev pub HasFirstPlace : (new : Option Held) (process : ℕ) → Type 0
HasFirstPlace new process = IsSomeAnd (place_in new) (λ seat.
    (process_of seat ≡ process) × (own_calls seat ≡ []) × (calls_made seat ≡ 0) × (version_of seat ≡ 0))

-- a seat of an object whose invocations and replies have as many words as these
abbrev pub HasWidths : (old : Option Held) (invocation reply : List ℕ) → Type 0
HasWidths old invocation reply = IsSomeAnd (place_in old) (λ seat. IsSomeAnd (shared_in old) (λ shared.
    (length invocation ≡ invocation_width_of shared) × (length reply ≡ reply_width_of shared)))

-- a seat of an object whose invocations or replies have not
abbrev pub HasOtherWidths : (old : Option Held) (invocation reply : List ℕ) → Type 0
HasOtherWidths old invocation reply = IsSomeAnd (place_in old) (λ seat. IsSomeAnd (shared_in old) (λ shared.
    (length invocation ≢ invocation_width_of shared) ⊎ (length reply ≢ reply_width_of shared)))

-- a seat that has made all the calls that it can make
abbrev pub IsSpent : Option Held → Type 0
IsSpent old = IsSomeAnd (place_in old) (λ seat. calls_made seat ≡ most_calls)

-- The same seat after one more call, in its order and by at most so many word steps: this invocation, which was answered this reply, after
-- all calls of the version that the seat had, and in this version, which is greater and which the seat has then.
pub record MakesCall (shared : SmallShared SmallKind) (s t : SmallSeat SmallKind) (invocation reply : List ℕ) (version : ℕ) : Type 0 where
  pub process : process_of t ≡ process_of s
  pub own : own_calls t ≡ own_calls s ++ record { inv = invocation; reply = reply; after = version_of s; version = version } ∷ []
  pub made : calls_made t ≡ calls_made s + 1
  pub taken : taken_calls t ≡ taken_calls s
  pub later : version_of s < version
  pub present : version_of t ≡ version
  pub steps : word_steps_of t ≤ word_steps_of s + call_steps (sizes_of shared)

abbrev pub HasCalledSmall : (old new : Option Held) (invocation reply : List ℕ) (version : ℕ) → Type 0
HasCalledSmall old new invocation reply version = IsSomeAnd (shared_in old) (λ shared. IsSomeAnd (place_in old) (λ s. IsSomeAnd (place_in new) (λ t.
    MakesCall shared s t invocation reply version)))

-- the same seat after it has loaded words of the present state, by at most so many word steps, and made no call
pub record LoadsState (shared : SmallShared SmallKind) (s t : SmallSeat SmallKind) : Type 0 where
  pub process : process_of t ≡ process_of s
  pub calls : calls_of t ≡ calls_of s
  pub made : calls_made t ≡ calls_made s
  pub taken : taken_calls t ≡ taken_calls s
  pub steps : word_steps_of t ≤ word_steps_of s + read_steps (sizes_of shared)

-- The same seat after it has read the present state: the object answers this reply to the invocation at this version, which the seat has then.
pub record ReadsSmall (shared : SmallShared SmallKind) (s t : SmallSeat SmallKind) (invocation reply : List ℕ) (version : ℕ) : Type 0 where
  pub loads : LoadsState shared s t
  pub told : IsAnswerAt (small_meaning (object_of shared)).object (processes_of shared) (calls_of t ∷ []) version invocation reply
  pub later : version_of s ≤ version
  pub present : version_of t ≡ version

abbrev pub HasReadSmall : (old new : Option Held) (invocation reply : List ℕ) (version : ℕ) → Type 0
HasReadSmall old new invocation reply version = IsSomeAnd (shared_in old) (λ shared. IsSomeAnd (place_in old) (λ s. IsSomeAnd (place_in new) (λ t.
    ReadsSmall shared s t invocation reply version)))

-- The same seat after it has tried to read, and another version came: it has the version that it had.
pub record MissesState (shared : SmallShared SmallKind) (s t : SmallSeat SmallKind) : Type 0 where
  pub loads : LoadsState shared s t
  pub present : version_of t ≡ version_of s

abbrev pub HasMissedState : (old new : Option Held) → Type 0
HasMissedState old new = IsSomeAnd (shared_in old) (λ shared. IsSomeAnd (place_in old) (λ s. IsSomeAnd (place_in new) (λ t. MissesState shared s t)))

-- The same seat after it asked whether a version has come, by one word step. It has the version that it found then, and the number is 1
-- exactly where that is at least the one that was asked for.
pub record AsksVersion (s t : SmallSeat SmallKind) (version number : ℕ) : Type 0 where
  pub few : number ≤ 1
  pub asked : (number ≡ 1) ↔ (version ≤ version_of t)
  pub later : version_of s ≤ version_of t
  pub calls : calls_of t ≡ calls_of s
  pub made : calls_made t ≡ calls_made s
  pub taken : taken_calls t ≡ taken_calls s
  pub step : word_steps_of t ≡ word_steps_of s + 1

abbrev pub HasAskedVersion : (old new : Option Held) (version number : ℕ) → Type 0
HasAskedVersion old new version number = IsSomeAnd (place_in old) (λ s. IsSomeAnd (place_in new) (λ t. AsksVersion s t version number))

-- an object whose states have not as many words as this
abbrev pub HasOtherWidth : (old : Option Held) (state : List ℕ) → Type 0
HasOtherWidth old state = IsSomeAnd (shared_in old) (λ shared. length state ≢ width_of shared)

-- The last state of the object: that after the calls of a history that the atomic object accepts, in which the seat's process makes the seat's
-- own calls, with the replies that it was given, where their versions tell.
abbrev pub HasEnded : (old : Option Held) (state : List ℕ) → Type 0
HasEnded old state = IsSomeAnd (shared_in old) (λ shared.
    HasHistory (small_meaning (object_of shared)).object (processes_of shared) (known_in old) state)

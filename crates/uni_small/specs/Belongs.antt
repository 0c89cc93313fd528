-- Which seats are an object's, and what they have. `seat.seat` is the handle that the kit gives for a table of words, and
-- `seat.seat.me.0` what is known by it.
use Rattle.std.specs.Prelude.{Some, ◌≡◌, ℕ, ◌<◌, List, [], ◌∷◌, length, slice_get}
use Rattle.uni_small.specs.Kept.{KeepsItsOwn}
use Rattle.uni_small.specs.View.{Returned, ProcessReturned}
use Rattle.uni_small.specs.declared.log.SmallShared.{SmallShared}
use Rattle.uni_small.specs.declared.seat.SmallSeat.{SmallSeat}
use Rattle.uni_small.specs.declared.sizes.Sizes.{Sizes}

abbrev pub object_of : {O : Type 0} → SmallShared O → O
object_of shared = shared.setup.object

abbrev pub processes_of : {O : Type 0} → SmallShared O → ℕ
processes_of shared = shared.setup.sizes.processes

abbrev pub width_of : {O : Type 0} → SmallShared O → ℕ
width_of shared = shared.setup.sizes.state

-- how many words an invocation has, and a reply
abbrev pub invocation_width_of : {O : Type 0} → SmallShared O → ℕ
invocation_width_of shared = shared.setup.sizes.invocation

abbrev pub reply_width_of : {O : Type 0} → SmallShared O → ℕ
reply_width_of shared = shared.setup.sizes.reply

-- all of these numbers
abbrev pub sizes_of : {O : Type 0} → SmallShared O → Sizes
sizes_of shared = shared.setup.sizes

-- a seat's process; its calls that have returned; how many they are; the version that its next calls come after; and
-- how many word steps it has taken
abbrev pub process_of : {O : Type 0} → SmallSeat O → ℕ
process_of seat = seat.p

abbrev pub own_calls : {O : Type 0} → SmallSeat O → List Returned
own_calls seat = seat.seat.me.0.known.local.own

abbrev pub calls_made : {O : Type 0} → SmallSeat O → ℕ
calls_made seat = seat.made

abbrev pub version_of : {O : Type 0} → SmallSeat O → ℕ
version_of seat = seat.seat.me.0.known.local.after

abbrev pub word_steps_of : {O : Type 0} → SmallSeat O → ℕ
word_steps_of seat = seat.seat.me.0.known.local.steps

-- how many of its calls its announcement tells
abbrev pub announced_by : {O : Type 0} → SmallSeat O → ℕ
announced_by seat = seat.seat.me.0.known.local.told

-- the seat is one of this object's (that it is between calls is so of every seat)
pub record IsSeatOf {O : Type 0} (shared : SmallShared O) (seat : SmallSeat O) : Type 0 where
  pub table : seat.seat.table_id ≡ shared.table.shared.table_id
  pub object : seat.seat.me.0.object ≡ Some shared.setup.object
  pub sizes : seat.seat.me.0.known.sizes ≡ shared.setup.sizes
  pub inside : seat.p < shared.setup.sizes.processes
  -- what it keeps for itself
  pub keeps : KeepsItsOwn shared.setup.sizes seat

-- a seat's process with its calls
abbrev pub calls_of : {O : Type 0} → SmallSeat O → ProcessReturned
calls_of seat = record { process = process_of seat; calls = own_calls seat }

-- the words in its room for a state: those of the state that it has read last, until it calls, or a read finds none
abbrev pub state_read : {O : Type 0} → SmallSeat O → List ℕ
state_read seat = seat.room.state.items

-- the calls of the processes whose seats it has taken in, and all that it knows
abbrev pub taken_calls : {O : Type 0} → SmallSeat O → List (ProcessReturned)
taken_calls seat = seat.seat.me.0.known.taken

abbrev pub known_calls : {O : Type 0} → SmallSeat O → List (ProcessReturned)
known_calls seat = calls_of seat ∷ taken_calls seat

-- the seat of process p, which has made no call
pub record IsFreshSeat {O : Type 0} (shared : SmallShared O) (p : ℕ) (seat : SmallSeat O) : Type 0 where
  pub own : IsSeatOf shared seat
  pub process : process_of seat ≡ p
  pub calls : own_calls seat ≡ []
  pub made : calls_made seat ≡ 0
  pub version : version_of seat ≡ 0
  pub taken : taken_calls seat ≡ []

-- the seats of the first processes, in order, none of which has made a call
pub record AreFirstSeats {O : Type 0} (shared : SmallShared O) (count : ℕ) (seats : List (SmallSeat O)) : Type 0 where
  pub many : length seats ≡ count
  pub each : (p : ℕ) (seat : SmallSeat O) → slice_get seats p ≡ Some seat → IsFreshSeat shared p seat

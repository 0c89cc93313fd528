-- What a process keeps for itself: its two buffers, and room for what it reads. No caller needs it.
use Rattle.std.specs.Prelude.{All, None, Option, Some, if◌then◌else◌, ◌≡◌, ℕ, ◌*◌, ◌+◌, ◌<◌, ◌≤◌, ◌⊎◌, List}
use Rattle.std.specs.Prelude.{length, map, slice_index}
use Rattle.uni_small.specs.Image.{Image, buffer_words, due_at, held_place, rows, spell}
use Rattle.uni_small.specs.Plays.{words_held}
use Rattle.uni_small.specs.Touched.{IsUntouched}
use Rattle.uni_small.specs.View.{Local}
use Rattle.uni_small.specs.declared.seat.SmallSeat.{SmallSeat}
use Rattle.uni_small.specs.declared.seat.Buffers.{Buffers}
use Rattle.uni_small.specs.declared.seat.Room.{Room}
use Rattle.uni_small.specs.declared.seat.Seen.{Seen}
use Rattle.uni_small.specs.declared.sizes.Sizes.{Sizes}
use Rattle.uni_small.specs.declared.span.Span.{Span}
use Rattle.uni_small.specs.declared.touched.Touched.{Touched}

-- what a process knows of its buffers: which one is its spare one, and the words of both
pub record AreBuffers (sizes : Sizes) (l : Local) (own : Buffers) : Type 0 where
  pub spare : l.spare ≡ own.spare
  pub which : own.spare ≤ 1
  pub held : l.held ≡ own.held.items
  pub long : length own.held.items ≡ 2 * buffer_words sizes

-- room for the words of an invocation
abbrev pub HasInvocation : Sizes → Seen → Type 0
HasInvocation sizes seen = length seen.invocation.items ≡ sizes.invocation

-- what is seen of a process
abbrev pub seen_in : Seen → Option (List ℕ)
seen_in seen = if seen.due then Some seen.invocation.items else None

-- what is seen of all of them
abbrev pub all_seen : Room → List (Option (List ℕ))
all_seen room = map seen_in room.seen.items

-- i is below `from`, or not below `to`
abbrev pub IsOutside : (from to i : ℕ) → Type 0
IsOutside from to i = (i < from) ⊎ (to ≤ i)

-- word i, of rows of `wide` words, is in the row of no process of the span
abbrev pub IsOutsideRows : Span → (wide i : ℕ) → Type 0
IsOutsideRows span wide i = IsOutside (span.from * wide) (span.to * wide) i

-- of no process outside the span a call was seen
abbrev pub IsQuietOutside : Span → List (Option (List ℕ)) → Type 0
IsQuietOutside span seen = (q : ℕ) → IsOutside span.from span.to q → due_at seen q ≡ 0

-- Room for an image, and for what is seen of the processes; `busy` is a range of processes, and of none outside it a
-- call was seen.
pub record HasRoom (sizes : Sizes) (room : Room) : Type 0 where
  pub applied : length room.applied.items ≡ sizes.processes
  pub reply : length room.reply.items ≡ sizes.processes * sizes.reply
  pub state : length room.state.items ≡ sizes.state
  pub seen : length room.seen.items ≡ sizes.processes
  pub invocations : All (HasInvocation sizes) room.seen.items
  pub saved : length room.saved.items ≡ sizes.state
  pub ordered : room.busy.from ≤ room.busy.to
  pub busy : room.busy.to ≤ sizes.processes
  pub quiet : IsQuietOutside room.busy (all_seen room)

-- an image with its replies in words, one after another
abbrev pub image_of_rows : Sizes → (applied replies state : List ℕ) → Image
image_of_rows sizes applied replies state =
    record { applied = applied; reply = rows sizes.processes sizes.reply replies; state = state }

-- the image in a room
abbrev pub image_in : Sizes → Room → Image
image_in sizes room = image_of_rows sizes room.applied.items room.reply.items room.state.items

-- word i of the first or second one of a process's buffers
abbrev pub word_held : Sizes → Buffers → (which i : ℕ) → ℕ
word_held sizes own which i = slice_index own.held.items (held_place sizes which i)

-- for each i < count with `at i`, word from + i is the same in both buffers of the process
abbrev pub BuffersAgree : Sizes → Buffers → (from count : ℕ) → (at : ℕ → Type 0) → Type 0
BuffersAgree sizes own from count at =
    (i : ℕ) → i < count → at i → word_held sizes own 0 (from + i) ≡ word_held sizes own 1 (from + i)

-- for each i < length row with `at i`, word from + i of the spare buffer is word i of the row
abbrev pub SpareHas : Sizes → Buffers → (from : ℕ) → (row : List ℕ) → (at : ℕ → Type 0) → Type 0
SpareHas sizes own from row at =
    (i : ℕ) → i < length row → at i → word_held sizes own own.spare (from + i) ≡ slice_index row i

-- neither of two batches of calls changes it
abbrev pub IsOutsideBoth : (one two : Span) → (wide i : ℕ) → Type 0
IsOutsideBoth one two wide i = IsOutsideRows one wide i × IsOutsideRows two wide i

abbrev pub IsUntouchedByBoth : (one two : Touched) → (i : ℕ) → Type 0
IsUntouchedByBoth one two i = IsUntouched one i × IsUntouched two i

-- What a process keeps for itself. The copy in `room` is the buffer that `room.of` names (2 names none). The two
-- buffers differ at most in the rows of the processes `own.apart.calls`, and in the words `own.apart.state` of the
-- state.
pub record IsKept (sizes : Sizes) (own : Buffers) (room : Room) : Type 0 where
  pub copy : room.of ≤ 1 → spell (image_in sizes room) ≡ words_held sizes own.held.items room.of
  pub ordered : own.apart.calls.from ≤ own.apart.calls.to
  pub inside : own.apart.calls.to ≤ sizes.processes
  pub applied : BuffersAgree sizes own 0 sizes.processes (IsOutsideRows own.apart.calls 1)
  pub reply : BuffersAgree sizes own sizes.processes (sizes.processes * sizes.reply) (IsOutsideRows own.apart.calls sizes.reply)
  pub state : BuffersAgree sizes own (sizes.processes + sizes.processes * sizes.reply) sizes.state (IsUntouched own.apart.state)

-- a seat keeps all this, and the state that it has read last, where that is so
pub record KeepsItsOwn {O : Type 0} (sizes : Sizes) (seat : SmallSeat O) : Type 0 where
  pub room : HasRoom sizes seat.room
  pub buffers : AreBuffers sizes seat.seat.me.0.known.local seat.own
  pub kept : IsKept sizes seat.own seat.room
  pub read : (version : ℕ) → seat.read ≡ Some version
      → seat.seat.me.0.known.local.read ≡ Some (record { version = version; state = seat.room.state.items })

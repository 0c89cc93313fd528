-- Seats that are called with calls, and give replies.
use Rattle.std.specs.Prelude.{◌≡◌, ℕ, length}
use Rattle.uni_small.specs.Belongs.{IsSeatOf, invocation_width_of, reply_width_of}
use Rattle.uni_small.specs.declared.log.SmallShared.{SmallShared}
use Rattle.uni_small.specs.declared.seat.SmallSeat.{SmallSeat}
use Rattle.small_objects.specs.declared.typed.TypedSeat.{TypedSeat}

-- the seat that makes the calls
abbrev pub seat_of : {O C R : Type 0} → TypedSeat O C R → SmallSeat O
seat_of typed = typed.seat

-- The seat is one of this object's, whose invocations have as many words as a call, and replies as many as a reply; it has room for them.
pub record IsTypedSeatOf {O C R : Type 0} (call reply : ℕ) (shared : SmallShared O) (typed : TypedSeat O C R) : Type 0 where
  pub seat : IsSeatOf shared (seat_of typed)
  pub call_wide : invocation_width_of shared ≡ call
  pub reply_wide : reply_width_of shared ≡ reply
  pub call_room : length typed.invocation.items ≡ call
  pub reply_room : length typed.reply.items ≡ reply

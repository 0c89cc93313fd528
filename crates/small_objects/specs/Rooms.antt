-- Room for a state, and for the words of a call.
use Rattle.std.specs.Prelude.{◌≡◌, length}
use Rattle.uni_small.specs.Image.{Meaning}
use Rattle.small_objects.specs.declared.order.Room.{Room}

pub record HasRoom (meaning : Meaning) (room : Room) : Type 0 where
  pub state : length room.state.items ≡ length meaning.object.initial
  pub invocation : length room.invocation.items ≡ meaning.invocation
  pub reply : length room.reply.items ≡ meaning.reply
  pub told : length room.told.items ≡ meaning.reply

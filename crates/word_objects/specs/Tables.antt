-- The tables of a machine.
use Rattle.std.specs.Prelude.{◌≡◌, ℕ, ◌≤◌, ◌<◌, ◌^◌, nat_le, List, position, None}

pub record Tables : Type 0 where
  -- how many states there are, and how many invocations
  pub states : ℕ
  pub invocations : ℕ
  -- the next state and the reply, row by row: a row for each state, with an entry for each invocation
  pub next : List ℕ
  pub reply : List ℕ

-- the entries are within their bounds: no next state is past the states, and no reply at or above 2^31
pub record AreSound (t : Tables) : Type 0 where
  pub some : 0 < t.states
  pub few : t.states ≤ 2 ^ 31
  pub called : 0 < t.invocations
  pub next : position (nat_le t.states) t.next ≡ None
  pub reply : position (nat_le (2 ^ 31)) t.reply ≡ None

-- Worlds, events, and the replay of a list of events.
use Rattle.std.specs.Prelude.{◌≡◌, ℕ, zero, suc, ◌+◌, ◌-◌, ◌<◌, ◌≤◌, List, [], ◌∷◌, Option, None, Some}
use Rattle.std.specs.Prelude.{option_map, option_and_then, IsSome}
use Rattle.std.specs.Option.{option_map_or}
use Rattle.seq_object.specs.Sequential.{Sequential}
use Rattle.uni_model.specs.Places.{Name, Memory, memory_with, seq_of, new_of}
use Rattle.uni_model.specs.AtomicObject.{set_at}
use Rattle.uni_model.specs.Places.Name.{Anchor, Of}
use Rattle.uni_model.specs.Places.Place.{Announced, HeadOf, InvOf, SeqOf, NewOf}
use Rattle.uni_model.specs.Places.Content.{CellName, Invocation, Number, Link, Settled}
use Rattle.uni_model.specs.Stages.{Pending}
use Rattle.uni_model.specs.Stages.Stage.{Announce}
use Rattle.uni_model.specs.Chain.{cells_from, last_of}
use Rattle.uni_model.specs.Transition.{place_of, stage_after, content_after, turn_of, response_after}

-- n processes: the shared places; of each process its pending call, how many calls it has begun since the opening, the
-- number of its first call of the present era, and of its latest call among how many processes it ran (0 where it has begun
-- none), its own steps and its turns
pub record WorldOf (S I R : Type 0) : Type 0 where
  pub n : ℕ
  pub memory : Memory S I R
  pub call : ℕ → Option Pending
  pub begun : ℕ → ℕ
  pub first : ℕ → ℕ
  pub among : ℕ → ℕ
  pub steps : ℕ → ℕ
  pub turns : ℕ → ℕ

-- a process begins a call, or takes its next step; or an era ends: the list is replaced by its last cell, under as many processes
-- as before or under others
pub data Event (I : Type 0) : Type 0 where
  Call : (process : ℕ) → I → Event I
  Step : (process : ℕ) → Event I
  Trim : Event I
  Reshape : (processes : ℕ) → Event I

-- a process begins a call: it makes a cell that no other process knows yet
abbrev pub world_after_call : {S I R : Type 0} → WorldOf S I R → ℕ → I → WorldOf S I R
world_after_call w p i =
    record w {
      memory = memory_with w.memory (InvOf (Of p (w.begun p))) (Invocation (Some i));
      call = set_at w.call p (Some (record { mine = Of p (w.begun p); stage = Announce }));
      begun = set_at w.begun p (w.begun p + 1);
      among = set_at w.among p w.n;
      steps = set_at w.steps p 0;
      turns = set_at w.turns p 0;
    }

-- a process whose call is pending takes a step: it touches one place, and moves to its next stage
abbrev pub world_after_step : {S I R : Type 0} → Sequential S I R → WorldOf S I R → ℕ → Option Pending → WorldOf S I R
world_after_step object w p None = w
world_after_step object w p (Some call) =
    let place = place_of w.n p call.mine call.stage in
    record w {
      memory = memory_with w.memory place (content_after object call.mine call.stage (w.memory place) w.memory);
      call = set_at w.call p (option_map (λ k. record { mine = call.mine; stage = k })
          (stage_after w.n call.mine call.stage (w.memory place)));
      steps = set_at w.steps p (w.steps p + 1);
      turns = set_at w.turns p (w.turns p + turn_of call.stage (w.memory place));
    }

-- the response of the next step of a process, where that is the last one of its call
abbrev pub response_of_step : {S I R : Type 0} → WorldOf S I R → ℕ → Option R
response_of_step w p = option_and_then (λ call. response_after call.mine call.stage w.memory) (w.call p)

-- the anchor alone, with a state and a number: all announce and head entries name it
abbrev pub anchor_memory : {S I R : Type 0} → S → ℕ → Memory S I R
anchor_memory s number (Announced p) = CellName Anchor
anchor_memory s number (HeadOf p) = CellName Anchor
anchor_memory s number (InvOf x) = Invocation None
anchor_memory s number (SeqOf Anchor) = Number number
anchor_memory s number (SeqOf x) = Number 0
anchor_memory s number (NewOf Anchor) = Settled (Some (s, None))
anchor_memory s number (NewOf x) = Settled None
anchor_memory s number _ = Link None

-- n processes of which none has called, over a state and a first number; from 1 on, as number 0 says that a cell has
-- none yet
abbrev pub opened_world : {S I R : Type 0} → ℕ → S → ℕ → WorldOf S I R
opened_world n s number =
    record {
      n = n;
      memory = anchor_memory s number;
      call = λ p. None;
      begun = λ p. 0;
      first = λ p. 0;
      among = λ p. 0;
      steps = λ p. 0;
      turns = λ p. 0;
    }

-- how many calls of a process the present era has
abbrev pub calls_in_era : {S I R : Type 0} → WorldOf S I R → ℕ → ℕ
calls_in_era w p = w.begun p - w.first p

-- f below n, added up
abbrev pub sum_below : ℕ → (ℕ → ℕ) → ℕ
sum_below zero f = 0
sum_below (suc p) f = sum_below p f + f p

-- The cells that are linked, in order. Each cell after the anchor is that of one call of the era, and no cell is linked twice, so
-- there are at most as many as the era has calls: that many are followed, and none is left out.
abbrev pub chain : {S I R : Type 0} → WorldOf S I R → List Name
chain w = cells_from (sum_below w.n (calls_in_era w)) w.memory Anchor

-- the last linked cell, or the anchor
abbrev pub last_cell : {S I R : Type 0} → WorldOf S I R → Name
last_cell w = last_of Anchor (chain w)

-- an era ends: the list is replaced by one anchor, with the last cell's state and number, and there are n processes then;
-- numbers of calls go on, also those of processes that there aren't then
abbrev pub world_after_era : {S I R : Type 0} → WorldOf S I R → (n : ℕ) → WorldOf S I R
world_after_era w n =
    option_map_or (λ new. record w { n = n; first = w.begun; memory = anchor_memory new.0 (seq_of w.memory (last_cell w)) })
    (new_of w.memory (last_cell w)) w

-- an event
abbrev pub world_after : {S I R : Type 0} → Sequential S I R → WorldOf S I R → Event I → WorldOf S I R
world_after object w (Call p i) = world_after_call w p i
world_after object w (Step p) = world_after_step object w p (w.call p)
world_after object w Trim = world_after_era w w.n
world_after object w (Reshape n) = world_after_era w n

-- the events, the first of them first
abbrev pub world_after_all : {S I R : Type 0} → Sequential S I R → WorldOf S I R → List (Event I) → WorldOf S I R
world_after_all object w [] = w
world_after_all object w (e ∷ es) = world_after_all object (world_after object w e) es

-- no call is pending
abbrev pub IsQuiescent : {S I R : Type 0} → WorldOf S I R → Type 0
IsQuiescent w = (p : ℕ) → p < w.n → w.call p ≡ None

-- which events can come: a call of a process that has none pending, a step of one that has, an end of the era where no call is
-- pending, and only with a process left
abbrev pub IsAccepted : {S I R : Type 0} → WorldOf S I R → Event I → Type 0
IsAccepted w (Call p i) = (p < w.n) × (w.call p ≡ None)
IsAccepted w (Step p) = IsSome (w.call p)
IsAccepted w Trim = IsQuiescent w
IsAccepted w (Reshape n) = IsQuiescent w × (1 ≤ n)

abbrev pub AreAccepted : {S I R : Type 0} → Sequential S I R → WorldOf S I R → List (Event I) → Type 0
AreAccepted object w [] = Unit {0}
AreAccepted object w (e ∷ es) = IsAccepted w e × AreAccepted object (world_after object w e) es

-- the events without the trims; the reshapes stay
abbrev pub without_trims : {I : Type 0} → List (Event I) → List (Event I)
without_trims [] = []
without_trims (Trim ∷ es) = without_trims es
without_trims (e ∷ es) = e ∷ without_trims es

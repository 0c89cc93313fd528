-- Schedules: which process comes next, and the world that a list of processes leads to.
use Rattle.std.specs.Prelude.{ℕ, List, [], ◌∷◌, Option, None, Some, if◌then◌else◌, nat_lt, option_map, slice_get, Vec}
use Rattle.std.specs.Prelude.{option_and_then}
use Rattle.std.specs.declared.alloc.Global.{Global}
use Rattle.seq_object.specs.Sequential.{Sequential}
use Rattle.uni_model.specs.Worlds.{WorldOf, Event, world_after, opened_world, calls_in_era}
use Rattle.uni_model.specs.Worlds.Event.{Call, Step}
use Rattle.uni_core.specs.Same.{without_counts}
use Rattle.run_graph.specs.declared.plan.Plan as code

-- what is scheduled: the object, how many processes there are and calls a row has, and what each process calls
pub record Plan (S I R : Type 0) : Type 0 where
  pub object : Sequential S I R
  pub n : ℕ
  pub row : ℕ
  -- the call of a process that it makes as its nth, from 0
  pub call : ℕ → ℕ → Option I

-- the calls of the processes, as lists
abbrev pub call_in : {I : Type 0} → List (Vec I Global) → ℕ → ℕ → Option I
call_in calls p nth = option_and_then (λ list. slice_get list.items nth) (slice_get calls p)

abbrev pub plan_of : {S I R : Type 0} → Sequential S I R → (n row : ℕ) → List (Vec I Global) → Plan S I R
plan_of object n row calls = record { object = object; n = n; row = row; call = call_in calls }

-- the plan that the code has, of an object that means a sequential one
abbrev pub planned : {O S I R : Type 0} → (sequential : O → Sequential S I R) → code.Plan O S I R → Plan S I R
planned sequential plan = plan_of (sequential plan.object) plan.processes plan.row plan.calls.items

-- the event of a process: a step of its pending call, or its next call
abbrev pub event_from : {I A : Type 0} → ℕ → Option A → Option I → Option (Event I)
event_from p (Some pending) next = Some (Step p)
event_from p None next = option_map (Call p) next

-- The event of a process in a world: the next step of its pending call, or else its next call, where it has one and room for it.
abbrev pub event_of : {S I R : Type 0} → Plan S I R → WorldOf S I R → ℕ → Option (Event I)
event_of plan w p =
    if nat_lt p w.n then event_from p (w.call p) (if nat_lt (calls_in_era w p) plan.row then plan.call p (w.begun p) else None) else None

-- the world after it
abbrev pub moved : {S I R : Type 0} → Plan S I R → ℕ → WorldOf S I R → Option (WorldOf S I R)
moved plan p w = option_map (world_after plan.object w) (event_of plan w p)

-- the world after the events of these processes, the first of them first; none where one of them has none
abbrev pub along : {S I R : Type 0} → Plan S I R → Option (WorldOf S I R) → List ℕ → Option (WorldOf S I R)
along plan w [] = w
along plan w (p ∷ path) = along plan (option_and_then (moved plan p) w) path

-- the world at the end of a path from the opening
abbrev pub world_at : {S I R : Type 0} → Plan S I R → List ℕ → Option (WorldOf S I R)
world_at plan path = along plan (Some (opened_world plan.n plan.object.initial 1)) path

-- the same without what is counted of the latest calls
abbrev pub shown : {S I R : Type 0} → Plan S I R → List ℕ → Option (WorldOf S I R)
shown plan path = option_map without_counts (world_at plan path)

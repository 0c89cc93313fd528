-- Two processes share a register that keeps the last number and answers the one before, from 9. Process 0 asks it to keep 7, and
-- process 1 makes no call.
use Rattle.std.specs.Prelude.{◌≡◌, ℕ, ◌==◌, ◌&&◌, if◌then◌else◌, [], ◌∷◌, None, Some, option_map, refl}
use Rattle.seq_object.specs.Sequential.{Sequential}
use Rattle.uni_model.specs.Places.Name.{Anchor, Of}
use Rattle.uni_model.specs.Stages.Stage.{ScanHead}
use Rattle.uni_model.specs.Worlds.{opened_world}
use Rattle.uni_model.specs.Worlds.Event.{Call}
use Rattle.run_graph.specs.Schedule.{Plan, event_of, world_at}

abbrev sample : Sequential ℕ ℕ ℕ
sample = record { initial = 9; next = λ s i. i; answer = λ s i. s }

abbrev one_call : Plan ℕ ℕ ℕ
one_call = record { object = sample; n = 2; row = 4; call = λ p nth. if (p == 0) && (nth == 0) then Some 7 else None }

-- first process 0 can begin its call; process 1 has none to begin, and there is no process 2
event_of_0 : event_of one_call (opened_world 2 9 1) 0 ≡ Some (Call 0 7)
event_of_0 = refl

event_of_1 : event_of one_call (opened_world 2 9 1) 1 ≡ None
event_of_1 = refl

event_of_2 : event_of one_call (opened_world 2 9 1) 2 ≡ None
event_of_2 = refl

-- after the call and its first step it scans; where process 1 comes in between, there is no world
after_a_step : option_map (λ w. w.call 0) (world_at one_call (0 ∷ 0 ∷ [])) ≡ Some (Some (record { mine = Of 0 0; stage = ScanHead 0 Anchor 0 }))
after_a_step = refl

no_event_between : world_at one_call (0 ∷ 1 ∷ 0 ∷ []) ≡ None
no_event_between = refl

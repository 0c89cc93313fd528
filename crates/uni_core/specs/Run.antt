-- What commands to a world answer, which events they are, and the run of a list of them.
use Rattle.std.specs.Prelude.{◌≡◌, ℕ, ◌<◌, List, [], ◌∷◌, replicate, Option, Some, None, refl}
use Rattle.std.proofs.Common.{arith}
use Rattle.std.specs.Option.{option_map_or}
use Rattle.seq_object.specs.Sequential.{Sequential}
use Rattle.uni_model.specs.Worlds.{WorldOf, Event, world_after, world_after_all, response_of_step, opened_world}
use Rattle.uni_model.specs.Worlds.{Event as event}
use Rattle.uni_model.specs.AtomicObject.Act.{Invoke}
use Rattle.uni_model.specs.History.{acts_of, history_of}
use Rattle.uni_core.specs.declared.command.Command.{Command}
use Rattle.uni_core.specs.declared.command.Command.TheVariants.{Call, Step}
use Rattle.uni_core.specs.declared.command.Refusal.{Refusal}
use Rattle.uni_core.specs.declared.command.Refusal.TheVariants.{BadProcess, Busy, RowFull, Idle, Memory}
use Rattle.uni_core.specs.declared.command.Outcome.{Outcome}
use Rattle.uni_core.specs.declared.command.Outcome.TheVariants.{Called, Went, Returned, Refused}
use Rattle.uni_core.specs.declared.fault.BeginFault.TheVariants as begin
use Rattle.uni_core.specs.declared.fault.StepFault.TheVariants as step
use Rattle.uni_core.specs.World.{current_of, Follows}
use Rattle.uni_core.specs.Refusals.{CanCall, CanGo, IsBeginRefused, IsStepRefused}

-- why a call is refused
abbrev pub IsCallRefused : {S I R : Type 0} → WorldOf S I R → (row p : ℕ) → Refusal → Type 0
IsCallRefused w row p BadProcess = IsBeginRefused w row p begin.BadProcess
IsCallRefused w row p (Busy q) = IsBeginRefused w row p (begin.Busy q)
IsCallRefused w row p (RowFull q) = IsBeginRefused w row p (begin.RowFull q)
IsCallRefused w row p (Idle q) = ⊥
IsCallRefused w row p Memory = IsBeginRefused w row p begin.Memory

-- why a step is refused
abbrev pub IsGoRefused : {S I R : Type 0} → WorldOf S I R → (p : ℕ) → Refusal → Type 0
IsGoRefused w p BadProcess = IsStepRefused w p step.BadProcess
IsGoRefused w p (Busy q) = ⊥
IsGoRefused w p (RowFull q) = ⊥
IsGoRefused w p (Idle q) = IsStepRefused w p (step.Idle q)
IsGoRefused w p Memory = IsStepRefused w p step.Memory

-- what a command answers in a world with rows of so many calls
abbrev pub IsOutcome : {S I R : Type 0} → WorldOf S I R → (row : ℕ) → Command I → Outcome R → Type 0
IsOutcome w row (Call p i) (Called id) = CanCall w row p × (id ≡ record { process = p; nth = w.begun p })
IsOutcome w row (Call p i) (Refused why) = IsCallRefused w row p why
IsOutcome w row (Call p i) _ = ⊥
IsOutcome w row (Step p) Went = CanGo w p × (response_of_step w p ≡ None)
IsOutcome w row (Step p) (Returned id r) = (p < w.n) × (current_of w p ≡ Some id) × (response_of_step w p ≡ Some r)
IsOutcome w row (Step p) (Refused why) = IsGoRefused w p why
IsOutcome w row (Step p) _ = ⊥

-- the event that a command is, where it wasn't refused
abbrev pub event_of : {I R : Type 0} → Command I → Outcome R → Option (Event I)
event_of command (Refused why) = None
event_of (Call p i) _ = Some (event.Call p i)
event_of (Step p) _ = Some (event.Step p)

-- the events of these commands with these outcomes, in order
abbrev pub events_of : {I R : Type 0} → List (Command I) → List (Outcome R) → List (Event I)
events_of [] outcomes = []
events_of (command ∷ commands) [] = []
events_of (command ∷ commands) (outcome ∷ outcomes) =
    option_map_or (λ e. e ∷ events_of commands outcomes) (event_of command outcome) (events_of commands outcomes)

-- the world after a command with this outcome
abbrev pub after_command : {S I R : Type 0} → Sequential S I R → WorldOf S I R → Command I → Outcome R → WorldOf S I R
after_command object w command outcome = option_map_or (world_after object w) (event_of command outcome) w

-- one outcome for each command, at the world that the commands before it have left
abbrev pub AreOutcomes : {S I R : Type 0} → Sequential S I R → WorldOf S I R → (row : ℕ) → List (Command I) → List (Outcome R)
    → Type 0
AreOutcomes object w row [] [] = Unit {0}
AreOutcomes object w row [] (outcome ∷ outcomes) = ⊥
AreOutcomes object w row (command ∷ commands) [] = ⊥
AreOutcomes object w row (command ∷ commands) (outcome ∷ outcomes) =
    IsOutcome w row command outcome
    × AreOutcomes object (after_command object w command outcome) row commands outcomes

-- a world takes a command with this outcome, and is w' then
pub record TakesCommand {S I R : Type 0} (object : Sequential S I R) (w : WorldOf S I R) (row : ℕ) (command : Command I)
    (outcome : Outcome R) (w' : WorldOf S I R) : Type 0 where
  pub is : IsOutcome w row command outcome
  pub left : w' ≡ after_command object w command outcome
  pub accepted : Follows object w (after_command object w command outcome) (option_map_or (acts_of object w) (event_of command outcome) [])

-- an object that keeps the last number, and answers the one before
abbrev last_number : Sequential ℕ ℕ ℕ
last_number = record { initial = 0; next = λ s i. i; answer = λ s i. s }

-- two processes over 9: process 0 calls; 1 is idle; 0 steps
abbrev sample : WorldOf ℕ ℕ ℕ
sample = opened_world 2 9 1

abbrev sample_commands : List (Command ℕ)
sample_commands = Call 0 5 ∷ Step 1 ∷ Step 0 ∷ []

abbrev sample_outcomes : List (Outcome ℕ)
sample_outcomes = Called (record { process = 0; nth = 0 }) ∷ Refused (Idle 1) ∷ Went ∷ []

sample_events : events_of sample_commands sample_outcomes ≡ event.Call 0 5 ∷ event.Step 0 ∷ []
sample_events = refl

sample_steps : (world_after_all last_number sample (event.Call 0 5 ∷ event.Step 0 ∷ [])).steps 0 ≡ 1
sample_steps = refl

sample_acts : history_of last_number sample (event.Call 0 5 ∷ event.Step 0 ∷ []) ≡ Invoke 0 0 5 ∷ []
sample_acts = refl

-- the last process of two can begin a call, and there is no third
last_process_can_call : CanCall sample 8 1
last_process_can_call = (omega arith, refl, omega arith)

third_process_cannot : IsCallRefused sample 8 2 BadProcess
third_process_cannot = omega arith

third_process_has_no_step : IsGoRefused sample 2 BadProcess
third_process_has_no_step = omega arith

-- after a call a row of one is full, and a row of two has room
abbrev sample_returned : WorldOf ℕ ℕ ℕ
sample_returned = world_after_all last_number sample (event.Call 0 5 ∷ replicate 16 (event.Step 0))

row_of_one_is_full : IsCallRefused sample_returned 1 0 (RowFull 0)
row_of_one_is_full = (refl, omega arith, refl, refl)

row_of_two_has_room : CanCall sample_returned 2 0
row_of_two_has_room = (omega arith, refl, omega arith)

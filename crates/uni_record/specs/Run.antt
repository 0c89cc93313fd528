-- What commands to a record answer, and which events they are.
use Rattle.std.specs.Prelude.{◌≡◌, ℕ, ◌+◌, List, [], ◌∷◌, ◌++◌, Option, Some, None, option_to_list, refl}
use Rattle.std.specs.Option.{option_map_or}
use Rattle.seq_object.specs.Sequential.{Sequential}
use Rattle.uni_model.specs.Worlds.{WorldOf, world_after, world_after_all, response_of_step, without_trims}
use Rattle.uni_core.specs.World.{current_of}
use Rattle.uni_core.specs.Refusals.{IsCount, CanGo}
use Rattle.uni_core.specs.Ends.{last_number}
use Rattle.uni_record.specs.declared.command.Command.{Command}
use Rattle.uni_record.specs.declared.command.Command.TheVariants.{Call, Step, Trim, Reshape}
use Rattle.uni_record.specs.declared.command.Refusal.{Refusal}
use Rattle.uni_record.specs.declared.command.Refusal.TheVariants.{BadProcess, Busy, RowFull, Idle, BadCount, Pending, SeqFull, HistoryFull}
use Rattle.uni_record.specs.declared.command.Refusal.TheVariants.{Memory}
use Rattle.uni_record.specs.declared.command.Outcome.{Outcome}
use Rattle.uni_record.specs.declared.command.Outcome.TheVariants.{Called, Went, Returned, Trimmed, Reshaped, Refused}
use Rattle.uni_record.specs.declared.event.Event.{Event as Stored}
use Rattle.uni_record.specs.declared.event.Event.TheVariants as stored
use Rattle.uni_record.specs.declared.fault.RecordBeginFault.TheVariants as begin
use Rattle.uni_record.specs.declared.fault.RecordStepFault.TheVariants as step
use Rattle.uni_record.specs.declared.fault.RecordTrimFault.TheVariants as trim
use Rattle.uni_record.specs.declared.fault.RecordReshapeFault.TheVariants as reshape
use Rattle.uni_record.specs.Event.{event_shown, events_shown}
use Rattle.uni_record.specs.Recorded.{Recording, meaning}
use Rattle.uni_record.specs.Refusals.{Standing, standing_of, CanBegin, CanEnd, IsBeginRefused, IsStepRefused}
use Rattle.uni_record.specs.Recorded.{KeepsOpening}
use Rattle.uni_record.specs.Refusals.{IsEndRefused, IsReshapeRefused}

-- why a call is refused
abbrev pub IsCallRefused : {S I R : Type 0} → Standing S I R → (p : ℕ) → Refusal → Type 0
IsCallRefused s p BadProcess = IsBeginRefused s p begin.BadProcess
IsCallRefused s p (Busy q) = IsBeginRefused s p (begin.Busy q)
IsCallRefused s p (RowFull q) = IsBeginRefused s p (begin.RowFull q)
IsCallRefused s p HistoryFull = IsBeginRefused s p begin.HistoryFull
IsCallRefused s p Memory = IsBeginRefused s p begin.Memory
IsCallRefused s p _ = ⊥

-- why a step is refused
abbrev pub IsGoRefused : {S I R : Type 0} → Standing S I R → (p : ℕ) → Refusal → Type 0
IsGoRefused s p BadProcess = IsStepRefused s p step.BadProcess
IsGoRefused s p (Idle q) = IsStepRefused s p (step.Idle q)
IsGoRefused s p Memory = IsStepRefused s p step.Memory
IsGoRefused s p _ = ⊥

-- why a trim is refused, and a reshape to m processes
abbrev pub IsTrimRefused : {S I R : Type 0} → Standing S I R → Refusal → Type 0
IsTrimRefused s (Pending p) = IsEndRefused s s.world.n (trim.Pending p)
IsTrimRefused s SeqFull = IsEndRefused s s.world.n trim.SeqFull
IsTrimRefused s HistoryFull = IsEndRefused s s.world.n trim.HistoryFull
IsTrimRefused s Memory = IsEndRefused s s.world.n trim.Memory
IsTrimRefused s _ = ⊥

abbrev pub IsResizeRefused : {S I R : Type 0} → Standing S I R → (m : ℕ) → Refusal → Type 0
IsResizeRefused s m BadCount = IsReshapeRefused s m reshape.BadCount
IsResizeRefused s m (Pending p) = IsReshapeRefused s m (reshape.Pending p)
IsResizeRefused s m SeqFull = IsReshapeRefused s m reshape.SeqFull
IsResizeRefused s m HistoryFull = IsReshapeRefused s m reshape.HistoryFull
IsResizeRefused s m Memory = IsReshapeRefused s m reshape.Memory
IsResizeRefused s m _ = ⊥

-- what a command answers: what the single call answers there
abbrev pub IsOutcome : {S I R : Type 0} → Standing S I R → Command I → Outcome R → Type 0
IsOutcome s (Call p i) (Called id) = CanBegin s p × (id ≡ record { process = p; nth = s.world.begun p })
IsOutcome s (Call p i) (Refused why) = IsCallRefused s p why
IsOutcome s (Call p i) _ = ⊥
IsOutcome s (Step p) Went = CanGo s.world p × (response_of_step s.world p ≡ None)
IsOutcome s (Step p) (Returned id r) = CanGo s.world p × (current_of s.world p ≡ Some id) × (response_of_step s.world p ≡ Some r)
IsOutcome s (Step p) (Refused why) = IsGoRefused s p why
IsOutcome s (Step p) _ = ⊥
IsOutcome s Trim (Trimmed number) = CanEnd s s.world.n × (number ≡ last_number s.world)
IsOutcome s Trim (Refused why) = IsTrimRefused s why
IsOutcome s Trim _ = ⊥
IsOutcome s (Reshape m) (Reshaped k number) = (k ≡ m) × IsCount m × CanEnd s m × (number ≡ last_number s.world)
IsOutcome s (Reshape m) (Refused why) = IsResizeRefused s m why
IsOutcome s (Reshape m) _ = ⊥

-- the event that a command is, where it wasn't refused
abbrev pub event_of : {I R : Type 0} → Command I → Outcome R → Option (Stored I)
event_of command (Refused why) = None
event_of (Call p i) _ = Some (stored.Call p i)
event_of (Step p) _ = Some (stored.Step p)
event_of Trim _ = Some stored.Trim
event_of (Reshape m) _ = Some (stored.Reshape m)

-- the events of these commands with these outcomes, in order
abbrev pub events_of : {I R : Type 0} → List (Command I) → List (Outcome R) → List (Stored I)
events_of [] outcomes = []
events_of (command ∷ commands) [] = []
events_of (command ∷ commands) (outcome ∷ outcomes) = option_to_list (event_of command outcome) ++ events_of commands outcomes

-- what the answers depend on after a command with this outcome
abbrev pub standing_after : {S I R : Type 0} → Sequential S I R → Standing S I R → Command I → Outcome R → Standing S I R
standing_after object s command outcome =
    option_map_or (λ e. record s { world = world_after object s.world (event_shown e); stored = s.stored + 1 })
    (event_of command outcome) s

-- one outcome for each command, where the commands before it have led
abbrev pub AreOutcomes : {S I R : Type 0} → Sequential S I R → Standing S I R → List (Command I) → List (Outcome R) → Type 0
AreOutcomes object s [] [] = Unit {0}
AreOutcomes object s [] (outcome ∷ outcomes) = ⊥
AreOutcomes object s (command ∷ commands) [] = ⊥
AreOutcomes object s (command ∷ commands) (outcome ∷ outcomes) =
    IsOutcome s command outcome × AreOutcomes object (standing_after object s command outcome) commands outcomes

-- what is answered is what this world answers: to a call its name, and to a step how it goes on
abbrev pub IsAnswerIn : {S I R : Type 0} → WorldOf S I R → Command I → Outcome R → Type 0
IsAnswerIn w (Call p i) (Called id) = id ≡ record { process = p; nth = w.begun p }
IsAnswerIn w (Call p i) _ = Unit {0}
IsAnswerIn w (Step p) Went = response_of_step w p ≡ None
IsAnswerIn w (Step p) (Returned id r) = (current_of w p ≡ Some id) × (response_of_step w p ≡ Some r)
IsAnswerIn w (Step p) _ = Unit {0}
IsAnswerIn w Trim _ = Unit {0}
IsAnswerIn w (Reshape m) _ = Unit {0}

-- each outcome is what a run without trims answers there, which takes the events of these commands but for the trims
abbrev pub AreAnswersUntrimmed : {S I R : Type 0} → Sequential S I R → WorldOf S I R → List (Command I) → List (Outcome R)
    → Type 0
AreAnswersUntrimmed object w [] outcomes = Unit {0}
AreAnswersUntrimmed object w (command ∷ commands) [] = Unit {0}
AreAnswersUntrimmed object w (command ∷ commands) (outcome ∷ outcomes) =
    IsAnswerIn w command outcome
    × AreAnswersUntrimmed object (world_after_all object w (without_trims (events_shown (option_to_list (event_of command outcome)))))
    commands outcomes

-- a record takes a command with this outcome, and is `new` then
pub record TakesCommand {O S I R : Type 0} (sequential : O → Sequential S I R) (old : Recording O S I R) (command : Command I)
    (outcome : Outcome R) (new : Recording O S I R) : Type 0 where
  pub is : IsOutcome (standing_of old) command outcome
  pub left : standing_of new ≡ standing_after (meaning sequential old) (standing_of old) command outcome
  pub events : new.events ≡ old.events ++ option_to_list (event_of command outcome)
  pub fixed : KeepsOpening old new

-- a call, a step of a process that is idle, and a trim that waits for the call
sample_events : events_of {I = ℕ} {R = ℕ} (Call 0 5 ∷ Step 1 ∷ Trim ∷ [])
    (Called (record { process = 0; nth = 0 }) ∷ Refused (Idle 1) ∷ Refused (Pending 0) ∷ []) ≡ stored.Call 0 5 ∷ []
sample_events = refl

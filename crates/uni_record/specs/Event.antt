-- What stored events are in the definitions, and what a run of them returns and logs.
use Rattle.std.specs.Prelude.{◌≡◌, ℕ, suc, List, [], ◌∷◌, ◌++◌, Option, Some, None, map, option_map, option_and_then, refl}
use Rattle.std.specs.Prelude.{option_to_list}
use Rattle.std.specs.Borrow.{Bor}
use Rattle.seq_object.specs.Sequential.{Sequential}
use Rattle.uni_model.specs.Chain.{Entry}
use Rattle.uni_model.specs.Worlds.{WorldOf, Event, world_after, response_of_step, opened_world}
use Rattle.uni_model.specs.Worlds.Event.{Call, Step, Trim, Reshape}
use Rattle.uni_model.specs.AtomicObject.{Act}
use Rattle.uni_model.specs.AtomicObject.Act.{Invoke, Linearize, Respond}
use Rattle.uni_model.specs.History.{log}
use Rattle.uni_core.specs.World.{current_of}
use Rattle.uni_record.specs.declared.event.Event.{Event as Stored}
use Rattle.uni_record.specs.declared.event.Event.TheVariants as stored
use Rattle.uni_audit.specs.declared.verdict.Return.{Return}
use Rattle.uni_record.specs.declared.counts.Counts.{Counts}

-- a stored event
abbrev pub event_shown : {I : Type 0} → Stored I → Event I
event_shown (stored.Call p i) = Call p i
event_shown (stored.Step p) = Step p
event_shown stored.Trim = Trim
event_shown (stored.Reshape n) = Reshape n

abbrev pub events_shown : {I : Type 0} → List (Stored I) → List (Event I)
events_shown events = map event_shown events

-- how many of some events are calls
abbrev pub calls_in : {I : Type 0} → List (Event I) → ℕ
calls_in [] = 0
calls_in (Call p i ∷ events) = suc (calls_in events)
calls_in (Step p ∷ events) = calls_in events
calls_in (Trim ∷ events) = calls_in events
calls_in (Reshape n ∷ events) = calls_in events

-- the stored event that an event is whose invocation is lent
abbrev pub event_lent : {I : Type 0} → Stored (Bor I) → Stored I
event_lent (stored.Call p i) = stored.Call p i.now
event_lent (stored.Step p) = stored.Step p
event_lent stored.Trim = stored.Trim
event_lent (stored.Reshape n) = stored.Reshape n

-- a call that has returned, with its reply, and its own steps and turns
pub record Completed (R : Type 0) : Type 0 where
  pub returned : Return R
  pub counts : Counts

-- the call that an event completes: the pending call of a process that takes its last step
abbrev pub completed_by : {S I R : Type 0} → Sequential S I R → WorldOf S I R → Event I → Option (Completed R)
completed_by object w (Step p) =
    let v = world_after object w (Step p) in
    option_and_then (λ call. option_map (λ reply. record
    { returned = record { call = call; reply = reply }; counts = record { steps = v.steps p; turns = v.turns p } }) (response_of_step w p))
    (current_of w p)
completed_by object w _ = None

-- the calls that a run completes, in order
abbrev pub completed_in : {S I R : Type 0} → Sequential S I R → WorldOf S I R → List (Event I) → List (Completed R)
completed_in object w [] = []
completed_in object w (e ∷ es) = option_to_list (completed_by object w e) ++ completed_in object (world_after object w e) es

-- the entries of an era that an event ends
abbrev pub log_ended_by : {S I R : Type 0} → WorldOf S I R → Event I → List (Entry I R)
log_ended_by w (Call p i) = []
log_ended_by w (Step p) = []
log_ended_by w Trim = log w
log_ended_by w (Reshape n) = log w

-- the entries of the eras that have ended in a run, joined
abbrev pub ended_log : {S I R : Type 0} → Sequential S I R → WorldOf S I R → List (Event I) → List (Entry I R)
ended_log object w [] = []
ended_log object w (e ∷ es) = log_ended_by w e ++ ended_log object (world_after object w e) es

-- the responses among the acts of a history, in order
abbrev pub responses_in : {I R : Type 0} → List (Act I R) → List (Return R)
responses_in [] = []
responses_in (Invoke p k i ∷ acts) = responses_in acts
responses_in (Linearize c ∷ acts) = responses_in acts
responses_in (Respond p k r ∷ acts) = record { call = record { process = p; nth = k }; reply = r } ∷ responses_in acts

-- one process and an object that keeps the last number and answers the one before, from 9; a call that asks for 7 returns after 14
-- steps
abbrev sample : Sequential ℕ ℕ ℕ
sample = record { initial = 9; next = λ s i. i; answer = λ s i. s }

abbrev sample_events : List (Event ℕ)
sample_events =
    Call 0 7 ∷ Step 0 ∷ Step 0 ∷ Step 0 ∷ Step 0 ∷ Step 0 ∷ Step 0 ∷ Step 0 ∷ Step 0 ∷ Step 0 ∷ Step 0 ∷ Step 0
    ∷ Step 0 ∷ Step 0 ∷ Step 0 ∷ []

sample_completed : completed_in sample (opened_world 1 9 1) sample_events
    ≡ record { returned = record { call = record { process = 0; nth = 0 }; reply = 9 }; counts = record { steps = 14; turns = 1 } } ∷ []
sample_completed = refl

sample_log : ended_log sample (opened_world 1 9 1) (sample_events ++ Trim ∷ [])
    ≡ record { number = 2; call = record { process = 0; nth = 0; inv = 7 }; response = Some 9 } ∷ []
sample_log = refl

two_calls : calls_in {I = ℕ} (Call 0 5 ∷ Step 0 ∷ Call 1 5 ∷ Trim ∷ []) ≡ 2
two_calls = refl

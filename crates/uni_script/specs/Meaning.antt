-- What a command means: it is some events of the construction, and their replay leads to the world after it.
use Rattle.std.specs.Prelude.{ℕ, zero, suc, ◌+◌, ◌-◌, ◌*◌, ◌==◌, nat_le, nat_lt, ◌^◌, ◌&&◌, if◌then◌else◌}
use Rattle.std.specs.Prelude.{Bool, List, [], ◌∷◌, ◌++◌, length, map, replicate, Option, Some, None, is_some, is_none, option_map}
use Rattle.std.specs.Option.{option_map_or}
use Rattle.std.specs.List.{concat}
use Rattle.seq_object.specs.declared.call_id.CallId.{CallId}
use Rattle.ready_objects.specs.Words.{text_of_words}
use Rattle.uni_model.specs.Bound.{most_steps}
use Rattle.uni_model.specs.Places.{head_seq}
use Rattle.uni_model.specs.Worlds.{WorldOf, Event, world_after_all, opened_world, response_of_step, calls_in_era}
use Rattle.uni_model.specs.Worlds.Event.{Call, Step, Trim, Reshape}
use Rattle.uni_model.specs.Chain.{Entry}
use Rattle.uni_model.specs.History.{log}
use Rattle.uni_core.specs.World.{world_of}
use Rattle.uni_core.specs.Ends.{last_number}
use Rattle.uni_record.specs.Event.{events_shown}
use Rattle.uni_record.specs.Recorded.{Recording, set_aside, share}
use Rattle.uni_script.specs.declared.grammar.Header.{Header}
use Rattle.uni_script.specs.declared.grammar.Command.{Command}
use Rattle.uni_script.specs.declared.grammar.Command.TheVariants as command
use Rattle.uni_script.specs.declared.answer.Refusal.{Refusal}
use Rattle.uni_script.specs.declared.answer.Refusal.TheVariants.{Process, Busy, Row, Idle, Pending, Sequence, History, Count}
use Rattle.uni_script.specs.Answer.{called_text, refused_text, returned_text, going_text, heads_text, trimmed_text, reshaped_text}
use Rattle.uni_script.specs.Answer.{entry_text}
use Rattle.uni_script.specs.Objects.{SpokenObject}

-- What a header opens, and what has come since: how many processes there were and the number of the anchor; how many calls a
-- process can make in an era, and how many events there can be; the events, in order, and the world that they have led to.
pub record Session (S I R : Type 0) : Type 0 where
  pub processes : ℕ
  pub first : ℕ
  pub row : ℕ
  pub limit : ℕ
  pub events : List (Event I)
  pub world : WorldOf S I R

-- the record that the code has
abbrev pub session_of : {O S I R : Type 0} → Recording O S I R → Session S I R
session_of r = record {
  processes = r.processes;
  first = r.first;
  row = r.world.row;
  limit = r.limit;
  events = events_shown r.events;
  world = world_of r.world;
}

-- a session on which further events have come: its world goes on by their replay
abbrev pub session_after : {S I R : Type 0} → SpokenObject S I R → Session S I R → List (Event I) → Session S I R
session_after o b events = record b { events = b.events ++ events; world = world_after_all o.object b.world events }

-- what a command comes to: the events that it is, and the text of its answer
pub record CommandResult (I : Type 0) : Type 0 where
  pub events : List (Event I)
  pub text : List ℕ

-- a command that is refused is no event
abbrev pub refused : {I : Type 0} → Refusal → CommandResult I
refused refusal = record { events = []; text = refused_text refusal }

-- the latest call of a process
abbrev pub latest : {S I R : Type 0} → WorldOf S I R → ℕ → CallId
latest w p = record { process = p; nth = w.begun p - 1 }

-- the history has no room for a call of one process more: for the call itself, and the steps that it may take
abbrev pub is_full : {S I R : Type 0} → Session S I R → Bool
is_full b = nat_lt b.limit (length b.events + set_aside b.world + share b.world.n)

-- why a process can't begin a call, if it can't
abbrev pub refusal_of_call : {S I R : Type 0} → Session S I R → ℕ → Option Refusal
refusal_of_call b p =
    if nat_le b.world.n p then Some (Process p)
    else if is_some (b.world.call p) then Some (Busy p)
    else if calls_in_era b.world p == b.row then Some (Row p)
    else if is_full b then Some History
    else None

-- a process begins a call
abbrev pub result_of_call : {S I R : Type 0} → Session S I R → ℕ → I → CommandResult I
result_of_call b p i =
    option_map_or refused (refusal_of_call b p) (record
    { events = Call p i ∷ []; text = called_text (record { process = p; nth = b.world.begun p }) })

-- why a process can't take a step, if it can't
abbrev pub refusal_of_step : {S I R : Type 0} → WorldOf S I R → ℕ → Option Refusal
refusal_of_step w p =
    if nat_le w.n p then Some (Process p)
    else if is_none (w.call p) then Some (Idle p)
    else None

-- so many steps of a process
abbrev pub steps_of : {I : Type 0} → (p count : ℕ) → List (Event I)
steps_of p count = replicate count (Step p)

-- the response of a process's step, where it is the last one of a call, after so many others of it
abbrev pub response_after : {S I R : Type 0} → SpokenObject S I R → WorldOf S I R → (p earlier : ℕ) → Option R
response_after o w p earlier = response_of_step (world_after_all o.object w (steps_of p earlier)) p

-- the last step of a call: how many earlier ones there are, and its response
pub record LastStep (R : Type 0) : Type 0 where
  pub earlier : ℕ
  pub response : R

-- the first of so many steps of a process that has a response
abbrev pub last_step : {S I R : Type 0} → SpokenObject S I R → WorldOf S I R → (p most : ℕ) → Option (LastStep R)
last_step o w p zero = None
last_step o w p (suc m) =
    option_map_or Some (last_step o w p m) (option_map (λ r. record { earlier = m; response = r }) (response_after o w p m))

-- how many steps are taken of so many: none after the last one of a call
abbrev pub steps_taken : {R : Type 0} → (most : ℕ) → Option (LastStep R) → ℕ
steps_taken most last = option_map_or (λ step. step.earlier + 1) last most

-- what is answered after steps of a process in this call
abbrev pub text_of_steps : {S I R : Type 0} → SpokenObject S I R → WorldOf S I R → Option (LastStep R) → ℕ → CallId → List ℕ
text_of_steps o after last p call =
    option_map_or (λ step. returned_text call (o.language.resp_text step.response) (after.steps p) (after.turns p)) last
    (going_text call (after.steps p) (after.turns p))

-- a process takes steps until its call returns, at most so many
abbrev pub result_of_steps : {S I R : Type 0} → SpokenObject S I R → WorldOf S I R → ℕ → (most : ℕ) → CommandResult I
result_of_steps o w p most =
    option_map_or refused (refusal_of_step w p)
    (let last = last_step o w p most in
    let events = steps_of p (steps_taken most last) in
    record { events = events; text = text_of_steps o (world_after_all o.object w events) last p (latest w p) })

-- the least of the first m processes that has a call pending
abbrev pub least_pending : {S I R : Type 0} → WorldOf S I R → (m : ℕ) → Option ℕ
least_pending w zero = None
least_pending w (suc p) = option_map_or Some (least_pending w p) (if is_some (w.call p) then Some p else None)

-- why an era can't end for m processes, if it can't: a call is pending, the numbers of the next era don't fit, or the history has
-- no room for one event more
abbrev pub refusal_of_end : {S I R : Type 0} → Session S I R → (m : ℕ) → Option Refusal
refusal_of_end b m =
    option_map_or (λ p. Some (Pending p)) (least_pending b.world b.world.n)
    (if nat_le (2 ^ 48) (last_number b.world + m * b.row) then Some Sequence
    else if nat_lt b.limit (length b.events + 1) then Some History
    else None)

-- the era ends
abbrev pub result_of_trim : {S I R : Type 0} → Session S I R → CommandResult I
result_of_trim b =
    option_map_or refused (refusal_of_end b b.world.n) (record { events = Trim ∷ []; text = trimmed_text (last_number b.world) })

-- why it can't end for another number of processes, if it can't
abbrev pub refusal_of_reshape : {S I R : Type 0} → Session S I R → (m : ℕ) → Option Refusal
refusal_of_reshape b m = if nat_le 1 m && nat_le m 64 then refusal_of_end b m else Some (Count m)

-- the era ends, and there are m processes then
abbrev pub result_of_reshape : {S I R : Type 0} → Session S I R → (m : ℕ) → CommandResult I
result_of_reshape b m =
    option_map_or refused (refusal_of_reshape b m) (record { events = Reshape m ∷ []; text = reshaped_text m (last_number b.world) })

-- the lines of the entries of the present log
abbrev pub log_text : {S I R : Type 0} → SpokenObject S I R → WorldOf S I R → List ℕ
log_text o w = concat (map (λ (entry : Entry _ _). entry_text
    (λ inv. text_of_words (o.language.inv_words inv)) o.language.resp_text entry) (log w))

abbrev pub result_of_command : {S I R : Type 0} → SpokenObject S I R → Session S I R → Command I → CommandResult I
result_of_command o b (command.Call p i) = result_of_call b p i
result_of_command o b (command.Step p most) = result_of_steps o b.world p most
result_of_command o b (command.Finish p) = result_of_steps o b.world p (most_steps b.world.n)
result_of_command o b command.Heads = record { events = []; text = heads_text b.world.n (head_seq b.world.memory) }
result_of_command o b command.Log = record { events = []; text = log_text o b.world }
result_of_command o b command.Trim = result_of_trim b
result_of_command o b (command.Reshape m) = result_of_reshape b m

-- why a command is refused, if it is
abbrev pub refusal_of_command : {S I R : Type 0} → Session S I R → Command I → Option Refusal
refusal_of_command b (command.Call p i) = refusal_of_call b p
refusal_of_command b (command.Step p most) = refusal_of_step b.world p
refusal_of_command b (command.Finish p) = refusal_of_step b.world p
refusal_of_command b command.Heads = None
refusal_of_command b command.Log = None
refusal_of_command b command.Trim = refusal_of_end b b.world.n
refusal_of_command b (command.Reshape m) = refusal_of_reshape b m

-- the session that a header opens, with a history of so many events at most
abbrev pub opened_session : {S I R N : Type 0} → SpokenObject S I R → (limit : ℕ) → Header N → Session S I R
opened_session o limit header =
    record {
      processes = header.processes;
      first = 1;
      row = header.row;
      limit = limit;
      events = [];
      world = opened_world header.processes o.object.initial 1;
    }

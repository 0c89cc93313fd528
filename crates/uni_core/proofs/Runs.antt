-- What a command does, and the run of a list of them.
use Rattle.uni_core.proofs.Vocabulary.{AcceptsAll-append, Act, AreAccepted, CallId, CanGo, Done, Err, Event, Follows, Going, IsSome, IsStepRefused, List, MayNeedMemory, None, Ok, Option, Sequential, Some, WorldParts, WorldOf, [], ap, append-nil, append_assoc, arith, current_of, get_or, length, option_map, option_map_or, progress_of, refl, subst, suc, sym, take, world_after, world_after_all, world_of, ℕ, ◌++◌, ◌+◌, ◌-◌, ◌<◌, ◌∙◌, ◌∷◌, ◌≡◌, ◌≤◌}
use Rattle.std.proofs.Math.Seq.{take-suc, take-length}
use Rattle.std.specs.Result.{IsErrOf}
use Rattle.uni_model.specs.Stages.{Pending}
use Rattle.uni_model.specs.Growth.{EndNoEra}
use Rattle.uni_model.specs.History.{acts_of, history_of}
use Rattle.uni_core.specs.declared.command.Command.{Command}
use Rattle.uni_core.specs.declared.command.Command.TheVariants.{Call, Step}
use Rattle.uni_core.specs.declared.command.Refusal.{Refusal}
use Rattle.uni_core.specs.declared.command.Outcome.{Outcome}
use Rattle.uni_core.specs.declared.command.Outcome.TheVariants.{Called, Went, Returned, Refused}
use Rattle.uni_core.specs.declared.fault.StepFault.{StepFault}
use Rattle.uni_core.specs.declared.fault.StepFault.TheVariants as step
use Rattle.uni_core.proofs.Begin.{none_isn't_some}
use Rattle.uni_core.specs.Run.{IsOutcome, after_command, event_of, events_of, AreOutcomes, TakesCommand}

-- a command that is refused leaves the world as it was
pub TakesCommand-refused : {O S I R : Type 0} (object : Sequential S I R) (old new : WorldParts O S I R) (row : ℕ) (command : Command I) (why : Refusal) → new ≡ old
    → IsOutcome (world_of old) row command (Refused why) → TakesCommand object (world_of old) row command (Refused why) (world_of new)
TakesCommand-refused object old new row command why same is = record {
  is = is;
  left = ap world_of same;
  accepted = λ a shows. (a, shows, refl);
}

-- which error a result has
pub IsErrOf-Err : {T E : Type 0} (e e' : E) → e ≡ e' → IsErrOf {T = T} (Err e) e'
IsErrOf-Err e e' same = ap (λ x. Err x) same

pub Err-IsErrOf : {T E : Type 0} (e e' : E) → IsErrOf {T = T} (Err e) e' → e ≡ e'
Err-IsErrOf e e' is = cc

pub Ok-IsErrOf : {T E : Type 0} (x : T) (e : E) → IsErrOf (Ok x) e → ⊥
Ok-IsErrOf x e is = cc

-- whether a step that was taken has a response
pub going_none : {R : Type 0} (o : Option R) → Going ≡ progress_of o → o ≡ None
going_none None e = refl
going_none (Some r) e = cc

pub done_some : {R : Type 0} (o : Option R) (r : R) → Done r ≡ progress_of o → o ≡ Some r
done_some None r e = cc
done_some (Some s) r e = cc

-- whether there is a pending call to name
pub current_none : {S I R : Type 0} (w : WorldOf S I R) (p : ℕ) → None ≡ current_of w p → w.call p ≡ None
current_none w p e = by_call (w.call p) e where
  by_call : (o : Option Pending) → None ≡ option_map (λ (c : Pending). let id : CallId = record { process = p; nth = w.begun p - 1 } in id) o → o ≡ None
  by_call None e = refl
  by_call (Some c) e = cc

pub current_some : {S I R : Type 0} (w : WorldOf S I R) (p : ℕ) (id : CallId) → Some id ≡ current_of w p → IsSome (w.call p)
current_some w p id e = by_call (w.call p) e where
  by_call : (o : Option Pending) → Some id ≡ option_map (λ (c : Pending). let id : CallId = record { process = p; nth = w.begun p - 1 } in id) o → IsSome o
  by_call None e = cc
  by_call (Some c) e = refl

-- a step that is refused to a process that has one to take may need memory
pub memory_needed : {S I R : Type 0} (w : WorldOf S I R) (p : ℕ) (e : StepFault) → CanGo w p → IsStepRefused w p e → MayNeedMemory w p
memory_needed w p step.BadProcess can past = absurd (let below = can.0 in omega (arith, below, past))
memory_needed w p (step.Idle q) can idle = absurd (none_isn't_some (w.call p) idle.1.1 can.1)
memory_needed w p step.Memory can needed = needed.1

-- Lists of events and one event more.
module _ {S I R : Type 0} (object : Sequential S I R) where
  replay-event : (w : WorldOf S I R) (o : Option (Event I)) (es : List (Event I))
      → world_after_all object w (option_map_or (λ e. e ∷ es) o es) ≡ world_after_all object (option_map_or (world_after object w) o w) es
  replay-event w None es = refl
  replay-event w (Some e) es = refl

  history-event : (w : WorldOf S I R) (o : Option (Event I)) (es : List (Event I))
      → history_of object w (option_map_or (λ e. e ∷ es) o es)
      ≡ option_map_or (acts_of object w) o [] ++ history_of object (option_map_or (world_after object w) o w) es
  history-event w None es = refl
  history-event w (Some e) es = refl

  Follows-append : (w later last : WorldOf S I R) (xs ys : List (Act I R)) → Follows object w later xs → Follows object later last ys → Follows object w last (xs ++ ys)
  Follows-append w later last xs ys first rest a shows =
      let b = first a shows in
      let c = rest b.0 b.1 in
      (c.0, c.1, AcceptsAll-append object a b.0 c.0 xs ys b.2 c.2)

-- no era ends by commands
pub EndNoEra-events_of : {I R : Type 0} (commands : List (Command I)) (outcomes : List (Outcome R)) → EndNoEra (events_of commands outcomes)
EndNoEra-events_of [] outcomes = tt
EndNoEra-events_of (command ∷ commands) [] = tt
EndNoEra-events_of (command ∷ commands) (outcome ∷ outcomes) = by_event _ command outcome (EndNoEra-events_of commands outcomes) where
  by_event : {I R : Type 0} (rest : List (Event I)) (c : Command I) (o : Outcome R) → EndNoEra rest → EndNoEra (option_map_or (λ e. e ∷ rest) (event_of c o) rest)
  by_event rest (Call p i) (Refused why) stay = stay
  by_event rest (Step p) (Refused why) stay = stay
  by_event rest (Call p i) _ stay = (tt, stay)
  by_event rest (Step p) _ stay = (tt, stay)

-- A world has taken these commands with these outcomes, and is w then.
pub record Ran {S I R : Type 0} (object : Sequential S I R) (first : WorldOf S I R) (row : ℕ) (commands : List (Command I)) (outcomes : List (Outcome R)) (w : WorldOf S I R) : Type 0 where
  pub are : AreOutcomes object first row commands outcomes
  pub ran : w ≡ world_after_all object first (events_of commands outcomes)
  pub accepted : Follows object first w (history_of object first (events_of commands outcomes))
  pub events : AreAccepted object first (events_of commands outcomes)

module _ {S I R : Type 0} (object : Sequential S I R) (row : ℕ) where
  Ran-nothing : (w : WorldOf S I R) → Ran object w row [] [] w
  Ran-nothing w = record { are = tt; ran = refl; accepted = λ a shows. (a, shows, refl); events = tt }

  -- the event of a command that wasn't refused can come
  IsAccepted-event_of : (w : WorldOf S I R) (command : Command I) (outcome : Outcome R) → IsOutcome w row command outcome → (rest : List (Event I))
      → AreAccepted object (after_command object w command outcome) rest → AreAccepted object w (option_map_or (λ e. e ∷ rest) (event_of command outcome) rest)
  IsAccepted-event_of w (Call p i) (Called id) is rest ok = ((is.0.0, is.0.1), ok)
  IsAccepted-event_of w (Call p i) (Refused why) is rest ok = ok
  IsAccepted-event_of w (Call p i) Went is rest ok = absurd is
  IsAccepted-event_of w (Call p i) (Returned id r) is rest ok = absurd is
  IsAccepted-event_of w (Step p) (Called id) is rest ok = absurd is
  IsAccepted-event_of w (Step p) (Refused why) is rest ok = ok
  IsAccepted-event_of w (Step p) Went is rest ok = (is.0.1, ok)
  IsAccepted-event_of w (Step p) (Returned id r) is rest ok = (has_call (w.call p) is.1, ok) where
    has_call : (o : Option Pending) → option_map (λ (c : Pending). let call : CallId = record { process = p; nth = w.begun p - 1 } in call) o ≡ Some id → IsSome o
    has_call None e = cc
    has_call (Some c) e = refl

  -- one command, and then these
  Ran-then : (w w' last : WorldOf S I R) (command : Command I) (outcome : Outcome R) (commands : List (Command I)) (outcomes : List (Outcome R))
      → TakesCommand object w row command outcome w' → Ran object w' row commands outcomes last → Ran object w row (command ∷ commands) (outcome ∷ outcomes) last
  Ran-then w w' last command outcome commands outcomes takes rest =
      let event : Option (Event I) = event_of command outcome in
      record {
        are = (takes.is, subst (λ x. AreOutcomes object x row commands outcomes) takes.left rest.are);
        ran = rest.ran ∙ ap (λ x. world_after_all object x (events_of commands outcomes)) takes.left ∙ sym (replay-event object w event (events_of commands outcomes));
        accepted = subst (Follows object w last) (
            ap (λ x. option_map_or (acts_of object w) event [] ++ history_of object x (events_of commands outcomes)) takes.left ∙ sym (history-event object w event (events_of commands outcomes)))
            (Follows-append object w w' last (option_map_or (acts_of object w) event []) (history_of object w' (events_of commands outcomes)) (subst (λ x. Follows object w x (option_map_or (acts_of object w) (event_of command outcome) [])) (sym takes.left) takes.accepted) rest.accepted);
        events = IsAccepted-event_of w command outcome takes.is (events_of commands outcomes) (subst (λ x. AreAccepted object x (events_of commands outcomes)) takes.left rest.events);
      }

  -- From where it began, the world has taken these commands with these outcomes, and whatever it takes from here on comes after them.
  pub record Leads (first : WorldOf S I R) (commands : List (Command I)) (outcomes : List (Outcome R)) (w : WorldOf S I R) : Type 0 where
    pub onward : (later : List (Command I)) (outcomes_later : List (Outcome R)) (last : WorldOf S I R) → Ran object w row later outcomes_later last
        → Ran object first row (commands ++ later) (outcomes ++ outcomes_later) last

  pub Leads-nothing : (w : WorldOf S I R) → Leads w [] [] w
  Leads-nothing w = record { onward = λ later outcomes last ran. ran }

  Leads-further : (first w w' : WorldOf S I R) (commands : List (Command I)) (outcomes : List (Outcome R)) (command : Command I) (outcome : Outcome R)
      → Leads first commands outcomes w → TakesCommand object w row command outcome w' → Leads first (commands ++ command ∷ []) (outcomes ++ outcome ∷ []) w'
  Leads-further first w w' commands outcomes command outcome leads takes = record {
    onward = λ later outcomes_later last ran.
        rw (append_assoc commands (command ∷ []) later, append_assoc outcomes (outcome ∷ []) outcomes_later)
        (leads.onward (command ∷ later) (outcome ∷ outcomes_later) last (Ran-then w w' last command outcome later outcomes_later takes ran));
  }

  -- after the first commands of a list, the next one is taken
  pub Leads-next : (first w w' : WorldOf S I R) (all : List (Command I)) (index : ℕ) (outcomes : List (Outcome R)) (command : Command I) (outcome : Outcome R) → index < length all → command ≡ get_or all index command
      → Leads first (take index all) outcomes w → TakesCommand object w row command outcome w' → Leads first (take (index + 1) all) (outcomes ++ outcome ∷ []) w'
  Leads-next first w w' all index outcomes command outcome within is leads takes =
      let more : suc index ≡ index + 1 = omega arith in
      let longer : take (suc index) all ≡ take index all ++ command ∷ [] = take-suc all index command within ∙ ap (λ c. take index all ++ c ∷ []) (sym is) in
      subst (λ commands. Leads first commands (outcomes ++ outcome ∷ []) w') (sym longer ∙ ap (λ k. take k all) more) (Leads-further first w w' (take index all) outcomes command outcome leads takes)

  -- and after the last, all have been
  pub Ran-all : (first w : WorldOf S I R) (all : List (Command I)) (index : ℕ) (outcomes : List (Outcome R)) → index ≤ length all → length all ≤ index → Leads first (take index all) outcomes w → Ran object first row all outcomes w
  Ran-all first w all index outcomes within past leads =
      let same : index ≡ length all = omega arith in
      let whole = leads.onward [] [] w (Ran-nothing w) in
      rw (same, take-length all, append-nil all, append-nil outcomes) at whole

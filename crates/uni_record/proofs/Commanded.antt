-- What a list of commands to a record comes to.
use Rattle.uni_record.proofs.Vocabulary.{AreOutcomes, Command, IsOutcome, KeepsOpening, List, Outcome, Recording, Refused, Sequential, Some, TakesCommand, [], ap, append-nil, append_assoc, arith, event_of, event_shown, events_of, get_or, length, length-append, meaning, option_map_or, option_to_list, refl, standing_after, standing_of, subst, suc, sym, take, world_after, world_of, ℕ, ◌++◌, ◌+◌, ◌<◌, ◌∙◌, ◌∷◌, ◌≡◌, ◌≤◌}
use Rattle.std.proofs.Math.Seq.{take-suc, take-length}
use Rattle.uni_record.specs.declared.command.Refusal.{Refusal}
use Rattle.uni_record.specs.declared.event.Event.{Event as Stored}

module _ {O S I R : Type 0} (sequential : O → Sequential S I R) where
  -- a command that is refused leaves the record as it was
  pub TakesCommand-refused : (old new : Recording O S I R) (command : Command I) (why : Refusal) → new ≡ old → IsOutcome (standing_of old) command (Refused why) → TakesCommand sequential old command (Refused why) new
  TakesCommand-refused old new command why same is = record {
    is = is;
    left = ap standing_of same;
    events = ap (λ r. r.events) same ∙ sym (append-nil old.events);
    fixed = rw same (record { object = refl; row = refl; processes = refl; first = refl; limit = refl });
  }

  -- another one is one event
  pub TakesCommand-done : (old new : Recording O S I R) (command : Command I) (outcome : Outcome R) (e : Stored I) → event_of command outcome ≡ Some e → IsOutcome (standing_of old) command outcome
      → world_of new.world ≡ world_after (meaning sequential old) (world_of old.world) (event_shown e) → new.events ≡ old.events ++ e ∷ [] → KeepsOpening old new → TakesCommand sequential old command outcome new
  TakesCommand-done old new command outcome e event is world events fixed = record {
    is = is;
    left = subst (λ o. standing_of new ≡ option_map_or (λ f. record (standing_of old) { world = world_after (meaning sequential old) (world_of old.world) (event_shown f); stored = length old.events + 1 }) o (standing_of old)) (sym event)
        (λ i. record { world = world i; row = fixed.row i; stored = stored i; limit = fixed.limit i });
    events = rw event events;
    fixed = fixed;
  } where
    stored : length new.events ≡ length old.events + 1
    stored = ap length events ∙ length-append old.events (e ∷ [])

  -- From where it began, the record has taken these commands with these outcomes, and whatever it takes from here on comes after.
  pub record Leads (first : Recording O S I R) (commands : List (Command I)) (outcomes : List (Outcome R)) (now : Recording O S I R) : Type 0 where
    pub are : (later : List (Command I)) (outcomes_later : List (Outcome R)) → AreOutcomes (meaning sequential first) (standing_of now) later outcomes_later
        → AreOutcomes (meaning sequential first) (standing_of first) (commands ++ later) (outcomes ++ outcomes_later)
    pub events : (later : List (Command I)) (outcomes_later : List (Outcome R)) → now.events ++ events_of later outcomes_later ≡ first.events ++ events_of (commands ++ later) (outcomes ++ outcomes_later)
    pub fixed : KeepsOpening first now

  pub Leads-nothing : (r : Recording O S I R) → Leads r [] [] r
  Leads-nothing r = record { are = λ later outcomes are. are; events = λ later outcomes. refl; fixed = record { object = refl; row = refl; processes = refl; first = refl; limit = refl } }

  Leads-further : (first now after : Recording O S I R) (commands : List (Command I)) (outcomes : List (Outcome R)) (command : Command I) (outcome : Outcome R)
      → Leads first commands outcomes now → TakesCommand sequential now command outcome after → Leads first (commands ++ command ∷ []) (outcomes ++ outcome ∷ []) after
  Leads-further first now after commands outcomes command outcome leads takes = record {
    are = λ later outcomes_later are.
        rw (append_assoc commands (command ∷ []) later, append_assoc outcomes (outcome ∷ []) outcomes_later)
        (leads.are (command ∷ later) (outcome ∷ outcomes_later) (takes.is, subst (λ s. AreOutcomes (meaning sequential first) s later outcomes_later) left are));
    events = λ later outcomes_later.
        rw (append_assoc commands (command ∷ []) later, append_assoc outcomes (outcome ∷ []) outcomes_later)
        (ap (λ es. es ++ events_of later outcomes_later) takes.events
        ∙ append_assoc now.events (option_to_list (event_of command outcome)) (events_of later outcomes_later)
        ∙ leads.events (command ∷ later) (outcome ∷ outcomes_later));
    fixed = record {
      object = takes.fixed.object ∙ leads.fixed.object;
      row = takes.fixed.row ∙ leads.fixed.row;
      processes = takes.fixed.processes ∙ leads.fixed.processes;
      first = takes.fixed.first ∙ leads.fixed.first;
      limit = takes.fixed.limit ∙ leads.fixed.limit;
    };
  } where
    left : standing_of after ≡ standing_after (meaning sequential first) (standing_of now) command outcome
    left = subst (λ o. standing_of after ≡ standing_after (sequential o) (standing_of now) command outcome) leads.fixed.object takes.left

  -- after the first commands of a list, the next one is taken
  pub Leads-next : (first now after : Recording O S I R) (all : List (Command I)) (index : ℕ) (outcomes : List (Outcome R)) (command : Command I) (outcome : Outcome R) → index < length all → command ≡ get_or all index command
      → Leads first (take index all) outcomes now → TakesCommand sequential now command outcome after → Leads first (take (index + 1) all) (outcomes ++ outcome ∷ []) after
  Leads-next first now after all index outcomes command outcome within is leads takes =
      let more : suc index ≡ index + 1 = omega arith in
      let longer : take (suc index) all ≡ take index all ++ command ∷ [] = take-suc all index command within ∙ ap (λ c. take index all ++ c ∷ []) (sym is) in
      subst (λ commands. Leads first commands (outcomes ++ outcome ∷ []) after) (sym longer ∙ ap (λ k. take k all) more) (Leads-further first now after (take index all) outcomes command outcome leads takes)

  -- and after the last, all have been
  pub AreOutcomes-all : (first now : Recording O S I R) (all : List (Command I)) (index : ℕ) (outcomes : List (Outcome R)) → index ≤ length all → length all ≤ index → Leads first (take index all) outcomes now
      → AreOutcomes (meaning sequential first) (standing_of first) all outcomes × (now.events ≡ first.events ++ events_of all outcomes)
  AreOutcomes-all first now all index outcomes within past leads =
      let same : index ≡ length all = omega arith in
      let are = leads.are [] [] tt in
      let events = leads.events [] [] in (
        rw (same, take-length all, append-nil all, append-nil outcomes) at are,
        rw (same, take-length all, append-nil all, append-nil outcomes, append-nil now.events) at events,
      )

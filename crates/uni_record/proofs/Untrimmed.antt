-- What a record answers is what the run of its events without their trims answers.
use Rattle.uni_record.proofs.Vocabulary.{AreAccepted, AreAccepted-snoc, AreAnswersUntrimmed, AreOutcomes, Call, CallId, Called, Command, Event, IsAccepted, IsAnswerIn, IsOutcome, IsProgress, IsRecording, KeepsOpening, List, Name, None, Option, Outcome, Pending, Recording, Refused, Reshape, Reshaped, Returned, Sequential, Some, Standing, Step, Trim, Trimmed, Went, WorldOf, [], ap, append-nil, current_of, event_of, event_shown, events_shown, map-append, meaning, opened_world, opening, option_map, option_map_or, option_to_list, progress_of, refl, standing_after, standing_of, subst, sym, untrimmed_world, without_trims, world_after, world_after_all, world_after_all-append, world_after_all-snoc, world_of, ℕ, ◌++◌, ◌+◌, ◌-◌, ◌∙◌, ◌∷◌, ◌≡◌, ◌≤◌}
use Rattle.uni_model.specs.Untrimmed.{ShowsSame, TrimsChangeNothing}
use Rattle.uni_model.proofs.RenamedRun.{TrimsChangeNothing-holds}
use Rattle.uni_core.specs.declared.fault.Progress.{Progress}
use Rattle.uni_record.specs.declared.command.Command.TheVariants as command
use Rattle.uni_record.specs.declared.event.Event.{Event as Stored}
use Rattle.uni_record.specs.declared.event.Event.TheVariants as stored

without_trims-trim : {I : Type 0} (es : List (Event I)) → without_trims (es ++ Trim ∷ []) ≡ without_trims es
without_trims-trim [] = refl
without_trims-trim (Call p i ∷ es) = ap (λ xs. Call p i ∷ xs) (without_trims-trim es)
without_trims-trim (Step p ∷ es) = ap (λ xs. Step p ∷ xs) (without_trims-trim es)
without_trims-trim (Trim ∷ es) = without_trims-trim es
without_trims-trim (Reshape n ∷ es) = ap (λ xs. Reshape n ∷ xs) (without_trims-trim es)

without_trims-append : {I : Type 0} (es fs : List (Event I)) → without_trims (es ++ fs) ≡ without_trims es ++ without_trims fs
without_trims-append [] fs = refl
without_trims-append (Call p i ∷ es) fs = ap (λ xs. Call p i ∷ xs) (without_trims-append es fs)
without_trims-append (Step p ∷ es) fs = ap (λ xs. Step p ∷ xs) (without_trims-append es fs)
without_trims-append (Trim ∷ es) fs = without_trims-append es fs
without_trims-append (Reshape n ∷ es) fs = ap (λ xs. Reshape n ∷ xs) (without_trims-append es fs)

module _ {S I R : Type 0} (object : Sequential S I R) where
  -- worlds that show the same have the same calls
  current_shown : (w u : WorldOf S I R) → ShowsSame w u → (p : ℕ) → current_of w p ≡ current_of u p
  current_shown w u shows p = by_calls (w.call p) (u.call p) (shows.pending p) where
    by_calls : (a b : Option Pending) → option_map (λ (c : Pending). c.mine) a ≡ option_map (λ (c : Pending). c.mine) b
        → option_map (λ (c : Pending). let id : CallId = record { process = p; nth = w.begun p - 1 } in id) a ≡ option_map (λ (c : Pending). let id : CallId = record { process = p; nth = u.begun p - 1 } in id) b
    by_calls None None same = refl
    by_calls None (Some c) same = absurd (let e : ◌≡◌ {A = Option Name} None (Some c.mine) = same in cc)
    by_calls (Some c) None same = absurd (let e : ◌≡◌ {A = Option Name} (Some c.mine) None = same in cc)
    by_calls (Some c) (Some d) same = ap (λ (f : ℕ → ℕ). let id : CallId = record { process = p; nth = f p - 1 } in Some id) shows.begun

  -- and answer the same
  answer_shown : (s : Standing S I R) (u : WorldOf S I R) → ShowsSame s.world u → (c : Command I) (outcome : Outcome R) → IsOutcome s c outcome → IsAnswerIn u c outcome
  answer_shown s u shows (command.Call p i) (Called id) is = is.1 ∙ ap (λ (f : ℕ → ℕ). let call : CallId = record { process = p; nth = f p } in call) shows.begun
  answer_shown s u shows (command.Call p i) Went is = tt
  answer_shown s u shows (command.Call p i) (Returned id r) is = tt
  answer_shown s u shows (command.Call p i) (Trimmed k) is = tt
  answer_shown s u shows (command.Call p i) (Reshaped m k) is = tt
  answer_shown s u shows (command.Call p i) (Refused why) is = tt
  answer_shown s u shows (command.Step p) (Called id) is = tt
  answer_shown s u shows (command.Step p) Went is = sym (shows.response p) ∙ is.1
  answer_shown s u shows (command.Step p) (Returned id r) is = (sym (current_shown s.world u shows p) ∙ is.1, sym (shows.response p) ∙ is.2)
  answer_shown s u shows (command.Step p) (Trimmed k) is = tt
  answer_shown s u shows (command.Step p) (Reshaped m k) is = tt
  answer_shown s u shows (command.Step p) (Refused why) is = tt
  answer_shown s u shows command.Trim outcome is = tt
  answer_shown s u shows (command.Reshape m) outcome is = tt

  -- the event of a command can come
  event_accepted : (s : Standing S I R) (c : Command I) (outcome : Outcome R) (e : Stored I) → IsOutcome s c outcome → event_of c outcome ≡ Some e → IsAccepted s.world (event_shown e)
  event_accepted s (command.Call p i) (Called id) e is of = subst (λ x. IsAccepted s.world (event_shown x)) (let same : stored.Call p i ≡ e = cc in same) (is.0.0.0, is.0.0.1)
  event_accepted s (command.Call p i) Went e is of = absurd is
  event_accepted s (command.Call p i) (Returned id r) e is of = absurd is
  event_accepted s (command.Call p i) (Trimmed k) e is of = absurd is
  event_accepted s (command.Call p i) (Reshaped m k) e is of = absurd is
  event_accepted s (command.Call p i) (Refused why) e is of = absurd (let none : ◌≡◌ {A = Option (Stored I)} None (Some e) = of in cc)
  event_accepted s (command.Step p) (Called id) e is of = absurd is
  event_accepted s (command.Step p) Went e is of = subst (λ x. IsAccepted s.world (event_shown x)) (let same : stored.Step p ≡ e = cc in same) is.0.1
  event_accepted s (command.Step p) (Returned id r) e is of = subst (λ x. IsAccepted s.world (event_shown x)) (let same : stored.Step p ≡ e = cc in same) is.0.1
  event_accepted s (command.Step p) (Trimmed k) e is of = absurd is
  event_accepted s (command.Step p) (Reshaped m k) e is of = absurd is
  event_accepted s (command.Step p) (Refused why) e is of = absurd (let none : ◌≡◌ {A = Option (Stored I)} None (Some e) = of in cc)
  event_accepted s command.Trim (Called id) e is of = absurd is
  event_accepted s command.Trim Went e is of = absurd is
  event_accepted s command.Trim (Returned id r) e is of = absurd is
  event_accepted s command.Trim (Trimmed k) e is of = subst (λ x. IsAccepted s.world (event_shown x)) (let same : stored.Trim ≡ e = cc in same) is.0.0
  event_accepted s command.Trim (Reshaped m k) e is of = absurd is
  event_accepted s command.Trim (Refused why) e is of = absurd (let none : ◌≡◌ {A = Option (Stored I)} None (Some e) = of in cc)
  event_accepted s (command.Reshape m) (Called id) e is of = absurd is
  event_accepted s (command.Reshape m) Went e is of = absurd is
  event_accepted s (command.Reshape m) (Returned id r) e is of = absurd is
  event_accepted s (command.Reshape m) (Trimmed k) e is of = absurd is
  event_accepted s (command.Reshape m) (Reshaped j k) e is of = subst (λ x. IsAccepted s.world (event_shown x)) (let same : stored.Reshape m ≡ e = cc in same) (is.2.0, is.1.0)
  event_accepted s (command.Reshape m) (Refused why) e is of = absurd (let none : ◌≡◌ {A = Option (Stored I)} None (Some e) = of in cc)

  module _ (n : ℕ) (start : S) (number : ℕ) (positive : 1 ≤ number) (same : (events : List (Event I)) → TrimsChangeNothing object n start number events) where
    abbrev first : WorldOf S I R
    first = opened_world n start number

    -- these events lead to where the answers stand
    record LeadsTo (events : List (Event I)) (s : Standing S I R) : Type 0 where
      accepted : AreAccepted object first events
      leads : s.world ≡ world_after_all object first events

    LeadsTo-next : (events : List (Event I)) (s : Standing S I R) → LeadsTo events s → (c : Command I) (outcome : Outcome R) → IsOutcome s c outcome
        → LeadsTo (events ++ events_shown (option_to_list (event_of c outcome))) (standing_after object s c outcome)
    LeadsTo-next events s to c outcome is = by_event (event_of c outcome) refl where
      by_event : (o : Option (Stored I)) → event_of c outcome ≡ o
          → LeadsTo (events ++ events_shown (option_to_list o)) (option_map_or (λ e. record s { world = world_after object s.world (event_shown e); stored = s.stored + 1 }) o s)
      by_event None of = subst (λ es. LeadsTo es s) (sym (append-nil events)) to
      by_event (Some e) of = record {
        accepted = AreAccepted-snoc object first events (event_shown e) to.accepted (subst (λ w. IsAccepted w (event_shown e)) to.leads (event_accepted s c outcome e is of));
        leads = ap (λ w. world_after object w (event_shown e)) to.leads ∙ sym (world_after_all-snoc object first events (event_shown e));
      }

    answers_untrimmed : (events : List (Event I)) (s : Standing S I R) (commands : List (Command I)) (outcomes : List (Outcome R)) → LeadsTo events s → AreOutcomes object s commands outcomes
        → AreAnswersUntrimmed object (world_after_all object first (without_trims events)) commands outcomes
    answers_untrimmed events s [] outcomes to are = tt
    answers_untrimmed events s (c ∷ commands) [] to are = tt
    answers_untrimmed events s (c ∷ commands) (outcome ∷ outcomes) to are =
        let more = events_shown (option_to_list (event_of c outcome)) in
        let rest = answers_untrimmed (events ++ more) (standing_after object s c outcome) commands outcomes (LeadsTo-next events s to c outcome are.0) are.1 in (
          answer_shown s (world_after_all object first (without_trims events)) (subst (λ w. ShowsSame w (world_after_all object first (without_trims events))) (sym to.leads) (same events positive to.accepted).shown) c outcome are.0,
          subst (λ w. AreAnswersUntrimmed object w commands outcomes)
              (ap (world_after_all object first) (without_trims-append events more) ∙ world_after_all-append object first (without_trims events) (without_trims more)) rest,
        )

module _ {O S I R : Type 0} (sequential : O → Sequential S I R) (r : Recording O S I R) where
  module _ (recording : IsRecording sequential r) where
    shown : ShowsSame (world_of r.world) (untrimmed_world sequential r)
    shown = subst (λ w. ShowsSame w (untrimmed_world sequential r)) (sym recording.replay)
        (TrimsChangeNothing-holds (meaning sequential r) r.processes (meaning sequential r).initial r.first (events_shown r.events) recording.positive recording.accepted).shown

    pub begun-untrimmed : (p : ℕ) → (world_of r.world).begun p ≡ (untrimmed_world sequential r).begun p
    begun-untrimmed p = ap (λ f. f p) shown.begun

    pub progress-untrimmed : (p : ℕ) (progress : Progress R) → IsProgress (world_of r.world) p progress → IsProgress (untrimmed_world sequential r) p progress
    progress-untrimmed p progress is = is ∙ ap progress_of (shown.response p)

  -- a trim is none of its events
  pub trim-untrimmed : (new : Recording O S I R) → new.events ≡ r.events ++ stored.Trim ∷ [] → KeepsOpening r new → untrimmed_world sequential new ≡ untrimmed_world sequential r
  trim-untrimmed new events fixed =
      ap (λ es. world_after_all (meaning sequential new) (opening sequential new) (without_trims (events_shown es))) events
      ∙ ap (λ es. world_after_all (meaning sequential new) (opening sequential new) (without_trims es)) (map-append event_shown r.events (stored.Trim ∷ []))
      ∙ ap (world_after_all (meaning sequential new) (opening sequential new)) (without_trims-trim (events_shown r.events))
      ∙ ap (λ o. world_after_all (sequential o) (opened_world new.processes (sequential o).initial new.first) (without_trims (events_shown r.events))) fixed.object
      ∙ ap (λ n. world_after_all (meaning sequential r) (opened_world n (meaning sequential r).initial new.first) (without_trims (events_shown r.events))) fixed.processes
      ∙ ap (λ k. world_after_all (meaning sequential r) (opened_world r.processes (meaning sequential r).initial k) (without_trims (events_shown r.events))) fixed.first

  -- and a list of commands is answered so
  pub AreAnswersUntrimmed-record : IsRecording sequential r → ((n : ℕ) (start : S) (number : ℕ) (events : List (Event I)) → TrimsChangeNothing (meaning sequential r) n start number events)
      → (commands : List (Command I)) (outcomes : List (Outcome R)) → AreOutcomes (meaning sequential r) (standing_of r) commands outcomes
      → AreAnswersUntrimmed (meaning sequential r) (untrimmed_world sequential r) commands outcomes
  AreAnswersUntrimmed-record is same commands outcomes are =
      answers_untrimmed (meaning sequential r) r.processes (meaning sequential r).initial r.first is.positive (same r.processes (meaning sequential r).initial r.first)
      (events_shown r.events) (standing_of r) commands outcomes (record { accepted = is.accepted; leads = is.replay }) are

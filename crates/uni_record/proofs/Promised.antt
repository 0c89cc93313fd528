-- The returns of a run are the responses of its history.
use Rattle.uni_record.proofs.Vocabulary.{Act, AreAccepted, AreAccepted-take, Call, CallId, Completed, Event, Invariant, Invariant-opened_world, Invariant-world_after, Invoke, Invoked, IsAccepted, IsPromised, IsRecording, JoinedLogGrows, Linearize, List, Memory, Name, None, Option, Pending, Recording, Reshape, Respond, Sequential, Some, Step, Trim, WorldOf, [], acts_of, ap, arith, completed_by, completed_in, drop, ended_log, entry_shown, events_shown, history_of, inv_of, length, log, log_of_run, map, map-append, meaning, opening, option_and_then, option_map, option_map_or, option_to_list, refl, response_after, responses_in, responses_of, subst, sym, take, world_after, world_of, ℕ, ◌++◌, ◌+◌, ◌-◌, ◌∙◌, ◌∷◌, ◌≡◌}
use Rattle.uni_model.specs.Places.Name.{Of}
use Rattle.uni_model.specs.Chain.{invoked_at}
use Rattle.uni_model.specs.History.{calls_of}
use Rattle.uni_model.specs.Laws.{LinksSoon}
use Rattle.uni_model.specs.Universal.{RunIsUniversal}
use Rattle.uni_log.specs.declared.entry.Entry.{Entry as Logged}
use Rattle.uni_record.specs.declared.counts.Counts.{Counts}
use Rattle.uni_record.proofs.Runs.{log_of_run-ended}

responses_in-append : {I R : Type 0} (xs ys : List (Act I R)) → responses_in (xs ++ ys) ≡ responses_in xs ++ responses_in ys
responses_in-append [] ys = refl
responses_in-append (Invoke p k i ∷ xs) ys = responses_in-append xs ys
responses_in-append (Linearize c ∷ xs) ys = responses_in-append xs ys
responses_in-append (Respond p k r ∷ xs) ys = ap (λ rs. record { call = record { process = p; nth = k }; reply = r } ∷ rs) (responses_in-append xs ys)

responses_in-linearized : {I R : Type 0} (calls : List (Invoked I)) (ys : List (Act I R)) → responses_in (map Linearize calls ++ ys) ≡ responses_in ys
responses_in-linearized [] ys = refl
responses_in-linearized (c ∷ calls) ys = responses_in-linearized calls ys

invoked_here : {S I R : Type 0} (m : Memory S I R) (mine : Name) (p k : ℕ) (i : I) → mine ≡ Of p k → inv_of m (Of p k) ≡ Some i → invoked_at m mine ≡ Some (record { process = p; nth = k; inv = i })
invoked_here m mine p k i is asks = rw (is, asks) refl

module _ {S I R : Type 0} (object : Sequential S I R) where
  -- what a process's last step returns is its response in the history
  returned_by_step : (w : WorldOf S I R) (p : ℕ) → Invariant object w → (c : Pending) → w.call p ≡ Some c → (counts : Counts) (response : Option R)
      → map (λ (d : Completed R). d.returned) (option_to_list (option_map (λ reply. record { returned = record { call = record { process = p; nth = w.begun p - 1 }; reply = reply }; counts = counts }) response))
      ≡ responses_in (responses_of w.memory p c.mine response)
  returned_by_step w p inv c is counts None = refl
  returned_by_step w p inv c is counts (Some r) =
      let own = inv.2.calls.mine p c is in
      let begun : w.begun p ≡ own.0 + 1 = own.2 in
      let nth : w.begun p - 1 ≡ own.0 = omega (arith, begun) in
      rw (invoked_here w.memory c.mine p own.0 own.3.0 own.1 own.3.1, nth) refl

  returned_by : (w : WorldOf S I R) (e : Event I) → Invariant object w → IsAccepted w e
      → map (λ (c : Completed R). c.returned) (option_to_list (completed_by object w e)) ≡ responses_in (acts_of object w e)
  returned_by w (Call p i) inv ok = refl
  returned_by w (Step p) inv ok = by_call (w.call p) refl ∙ sym (responses_in-linearized (drop (length (calls_of w)) (calls_of (world_after object w (Step p)))) _) where
    counts : Counts
    counts = record { steps = (world_after object w (Step p)).steps p; turns = (world_after object w (Step p)).turns p }

    Returns : Option Pending → Type 0
    Returns o =
        map (λ (c : Completed R). c.returned) (option_to_list (option_and_then (λ id. option_map (λ reply. record { returned = record { call = id; reply = reply }; counts = counts })
        (option_and_then (λ (c : Pending). response_after c.mine c.stage w.memory) o)) (option_map (λ (c : Pending). let id : CallId = record { process = p; nth = w.begun p - 1 } in id) o)))
        ≡ responses_in (option_map_or (λ (c : Pending). responses_of w.memory p c.mine (response_after c.mine c.stage w.memory)) o [])

    by_call : (call : Option Pending) → w.call p ≡ call → Returns (w.call p)
    by_call None is = subst Returns (sym is) refl
    by_call (Some c) is = subst Returns (sym is) (returned_by_step w p inv c is counts (response_after c.mine c.stage w.memory))
  returned_by w Trim inv ok = refl
  returned_by w (Reshape n) inv ok = refl

  pub returns_are_responses : (w : WorldOf S I R) (es : List (Event I)) → Invariant object w → AreAccepted object w es
      → map (λ (c : Completed R). c.returned) (completed_in object w es) ≡ responses_in (history_of object w es)
  returns_are_responses w [] inv ok = refl
  returns_are_responses w (e ∷ es) inv ok =
      map-append (λ (c : Completed R). c.returned) (option_to_list (completed_by object w e)) (completed_in object (world_after object w e) es)
      ∙ ap (λ rs. rs ++ map (λ (c : Completed R). c.returned) (completed_in object (world_after object w e) es)) (returned_by w e inv ok.0)
      ∙ ap (λ rs. responses_in (acts_of object w e) ++ rs) (returns_are_responses (world_after object w e) es (Invariant-world_after object w e ok.0 inv) ok.1)
      ∙ sym (responses_in-append (acts_of object w e) (history_of object (world_after object w e) es))

-- What every record promises.
module _ {O S I R : Type 0} (sequential : O → Sequential S I R) where
  pub IsPromised-kept : (r : Recording O S I R) → IsRecording sequential r
      → ((n : ℕ) (start : S) (number : ℕ) (events : List (Event I)) → RunIsUniversal (meaning sequential r) n start number events)
      → ((n : ℕ) (start : S) (number : ℕ) (events : List (Event I)) → LinksSoon (meaning sequential r) n start number events)
      → ((n : ℕ) (start : S) (number : ℕ) (events : List (Event I)) → JoinedLogGrows (meaning sequential r) n start number events)
      → IsPromised sequential r
  IsPromised-kept r is universal soon grows = record {
    universal = universal r.processes (meaning sequential r).initial r.first (events_shown r.events) is.positive is.accepted;
    responses = is.returned ∙ returns_are_responses (meaning sequential r) (opening sequential r) (events_shown r.events) (Invariant-opened_world (meaning sequential r) r.processes (meaning sequential r).initial r.first is.positive) is.accepted;
    soon = λ j p k floor e. soon r.processes (meaning sequential r).initial r.first (take j (events_shown r.events)) is.positive
        (AreAccepted-take (meaning sequential r) j (opening sequential r) (events_shown r.events) is.accepted) p k floor e;
    log = grows r.processes (meaning sequential r).initial r.first (events_shown r.events) is.positive is.accepted;
  }

  -- the entries of all eras are the joined log
  pub entries_are_joined : (r : Recording O S I R) (copies all : List (Logged I R)) → IsRecording sequential r → map entry_shown all ≡ map entry_shown copies ++ log (world_of r.world) → copies ≡ r.ended
      → map entry_shown all ≡ log_of_run (meaning sequential r) (opening sequential r) (events_shown r.events)
  entries_are_joined r copies all is joined copied =
      joined
      ∙ ap (λ xs. map entry_shown xs ++ log (world_of r.world)) copied
      ∙ ap (λ xs. xs ++ log (world_of r.world)) is.ended
      ∙ ap (λ w. ended_log (meaning sequential r) (opening sequential r) (events_shown r.events) ++ log w) is.replay
      ∙ sym (log_of_run-ended (meaning sequential r) (opening sequential r) (events_shown r.events))

-- The joined log holds the responses of the history.
use Rattle.uni_model.proofs.Vocabulary.{Atomic, Entry, Event, Invoked, IsLegal, List, None, Of, Option, Pending, RunShows, Sequential, Some, StandsAt, WorldOf, [], ap, arith, at_start, cond, false, history_of, inl, inr, invocations_of, log, log_of_run, logged_call, map, open_at, opened_world, option_map, refl, response_at, slice_get, slice_get-map, state_after, subst, suc, sum_by-cons, sym, take, take-map, true, world_after, world_after_all, zero, ℕ, ◌+◌, ◌<◌, ◌==◌, ◌∙◌, ◌∷◌, ◌≡◌}
use Rattle.seq_object.proofs.Legality.{IsLegalByPlaces-from_IsLegal}
use Rattle.uni_model.specs.Responses.{LogsResponses, calls_among}
use Rattle.uni_model.proofs.Kept.{Invariant-world_after_all}
use Rattle.uni_model.proofs.Values.{response-settled}
use Rattle.uni_model.proofs.Appended.{slice_get-append_cases}
use Rattle.uni_model.proofs.Eras.{answered_when_quiescent, entry_at, number_of_entry}
use Rattle.uni_model.proofs.Joined.{IsRun, IsRun-opened_world, JoinsLegalLogs-holds, map-calls, map-logged_call, run_cases}
use Rattle.uni_model.proofs.Linearized.{IsLinearizable-holds}
use Rattle.uni_model.proofs.Orderly.{IsAnswered, IsOrderly, IsOver, IsOrderly-at_start, effects, orderly_all, responses_end, responses_once}

module _ {I R : Type 0} where
  abbrev call_in : Entry I R → Invoked I
  call_in e = e.call

  effects-calls : (p : ℕ) (entries : List (Entry I R)) → effects p (map call_in entries) ≡ calls_among p entries
  effects-calls p [] = refl
  effects-calls p (e ∷ es) =
      sum_by-cons (λ (c : Invoked I). cond (c.process == p) 1 0) e.call (map call_in es)
      ∙ ap (λ n. cond (e.call.process == p) 1 0 + n) (effects-calls p es)
      ∙ sym (sum_by-cons (λ (x : Entry I R). cond (x.call.process == p) 1 0) e es)

  entry_of_call : (entries : List (Entry I R)) (j : ℕ) (c : Invoked I) → slice_get (map call_in entries) j ≡ Some c → (e : Entry I R) × (slice_get entries j ≡ Some e) × (e.call ≡ c)
  entry_of_call [] j c is = absurd (cc)
  entry_of_call (e ∷ es) zero c is = (e, refl, (let same : e.call ≡ c = cc in same))
  entry_of_call (e ∷ es) (suc j) c is = entry_of_call es j c is

module _ {S I R : Type 0} (object : Sequential S I R) where
  -- an entry without a response is that of a call that is pending
  unanswered_run : (w : WorldOf S I R) (es : List (Event I)) (start : S) → IsRun object w es start → (j : ℕ) (x : Entry I R) → slice_get (log_of_run object w es) j ≡ Some x → x.response ≡ None
      → (c : Pending) × ((world_after_all object w es).call x.call.process ≡ Some c) × (c.mine ≡ Of x.call.process x.call.nth)
  unanswered_run w [] start run j x at none =
      let sound = run.inv.2 in
      let number = number_of_entry object w run.inv.0 run.inv.1 sound j x at in
      elim (sound.calls.threaded x.call.process x.call.nth (sound.calls.linked x.call.process x.call.nth (let first = sound.numbered.first in omega arith))) [
        | inl threaded ↦ absurd (
            let settled = response-settled object w.memory run.inv.0 sound.values sound.back x.call.process x.call.nth threaded in
            let response = (entry_at object w run.inv.0 run.inv.1 sound j x at).response in
            let some = settled.1 in
            cc)
        | inr pending ↦ pending
      ]
  unanswered_run w (e ∷ es) start run j x at none = elim (run_cases object w e es start run) [
    | inl on ↦ unanswered_run (world_after object w e) es start on.1 j x (subst (λ xs. slice_get xs j ≡ Some x) (on.0.joined es) at) none
    | inr end ↦ elim (slice_get-append_cases (log w) (log_of_run object (world_after object w e) es) j x (subst (λ xs. slice_get xs j ≡ Some x) (end.0.joined es) at)) [
      | inl here ↦ absurd (let some = answered_when_quiescent object w run.inv.0 run.inv.1 run.inv.2 end.0.quiet j x here in let e : false ≡ true = rw none at some in cc)
      | inr after ↦ unanswered_run (world_after object w e) es (state_after object start (invocations_of w)) end.1 after.0 x after.2 none
    ]
  ]

  module _ (n : ℕ) (start : S) (number : ℕ) (es : List (Event I)) (run : IsRun object (opened_world n start number) es start) (b : Atomic S I) (shows : RunShows object start (opened_world n start number) es b) where
    abbrev joined : List (Entry I R)
    joined = log_of_run object (opened_world n start number) es

    abbrev last : WorldOf S I R
    last = world_after_all object (opened_world n start number) es

    -- a call that is over has its response in its entry
    answered_over : (p k : ℕ) (j : ℕ) (x : Entry I R) → slice_get joined j ≡ Some x → x.call.process ≡ p → x.call.nth ≡ k → IsOver b p k → (r : R) × (x.response ≡ Some r)
    answered_over p k j x at process nth over = by_response x.response refl where
      by_response : (o : Option R) → x.response ≡ o → (r : R) × (x.response ≡ Some r)
      by_response (Some r) is = (r, is)
      by_response None is = absurd (
          let pending = unanswered_run (opened_world n start number) es start run j x at is in
          let own = (Invariant-world_after_all object (opened_world n start number) es run.accepted run.inv).2.calls.mine x.call.process pending.0 pending.1 in
          let cell : Of x.call.process own.0 ≡ Of x.call.process x.call.nth = sym own.1 ∙ pending.2 in
          let its_nth : own.0 ≡ x.call.nth = cc in
          let its_open : b.open_call x.call.process ≡ Some (record { process = x.call.process; nth = own.0; inv = own.3.0 }) = sym (shows.open_call x.call.process) ∙ ap (open_at last.memory) pending.1 ∙ rw (own.1, own.3.1) refl in
          let later : k < own.0 = over.later (record { process = x.call.process; nth = own.0; inv = own.3.0 }) (ap b.open_call (sym process) ∙ its_open) in
          omega arith)

    numbered_joined : IsOrderly b → (i : ℕ) (e : Entry I R) → slice_get joined i ≡ Some e → e.call.nth ≡ calls_among e.call.process (take i joined)
    numbered_joined h i e at =
        let there : slice_get b.agreed i ≡ Some e.call = ap (λ cs. slice_get cs i) (sym shows.agreed) ∙ slice_get-map call_in joined i ∙ ap (option_map call_in) at in
        h.numbered i e.call there
        ∙ ap (λ cs. effects e.call.process (take i cs)) (sym shows.agreed)
        ∙ ap (effects e.call.process) (take-map call_in i joined)
        ∙ effects-calls e.call.process (take i joined)

    logged_joined : IsLegal object start (map logged_call joined) → (p k : ℕ) (r : R) → IsOver b p k → IsAnswered object b p k r
        → (place : ℕ) × (stands : StandsAt joined p k place) × (stands.entry.response ≡ Some r)
    logged_joined legal p k r over answer =
        let found = entry_of_call joined answer.place (record { process = p; nth = k; inv = answer.inv }) (ap (λ cs. slice_get cs answer.place) shows.agreed ∙ answer.at_place) in
        let process : found.0.call.process ≡ p = ap (λ (c : Invoked I). c.process) found.2 in
        let nth : found.0.call.nth ≡ k = ap (λ (c : Invoked I). c.nth) found.2 in
        let own = answered_over p k answer.place found.0 found.1 process nth over in
        let there : slice_get (map logged_call joined) answer.place ≡ Some (logged_call found.0) = slice_get-map logged_call joined answer.place ∙ ap (option_map logged_call) found.1 in
        let logs : response_at object start (map (λ (e : Entry I R). e.call.inv) joined) answer.place ≡ Some own.0
        = ap (λ is. response_at object start is answer.place) (sym (map-logged_call joined))
        ∙ IsLegalByPlaces-from_IsLegal object start (map logged_call joined) legal answer.place (logged_call found.0) own.0 there own.1 in
        let answers : response_at object start (map (λ (e : Entry I R). e.call.inv) joined) answer.place ≡ Some r
        = ap (λ is. response_at object start is answer.place) (sym (map-calls joined) ∙ ap (map (λ (c : Invoked I). c.inv)) shows.agreed)
        ∙ ap (λ s. response_at object s (map (λ (c : Invoked I). c.inv) b.agreed) answer.place) (sym shows.start) ∙ answer.response in
        (answer.place, record { entry = found.0; at = found.1; process = process; nth = nth }, own.1 ∙ sym logs ∙ answers)

  pub LogsResponses-holds : (n : ℕ) (start : S) (number : ℕ) (es : List (Event I)) → LogsResponses object n start number es
  LogsResponses-holds n start number es positive ok =
      let run = IsRun-opened_world object n start number es positive ok in
      let shown = IsLinearizable-holds object n start number es positive ok in
      let legal = (JoinsLegalLogs-holds object n start number es positive ok).legal in
      let acts = history_of object (opened_world n start number) es in
      let first = IsOrderly-at_start start in
      record {
        numbered = numbered_joined n start number es run shown.0 shown.1 (orderly_all object (at_start start) shown.0 acts first shown.2);
        once = λ i j p k r s at_i at_j. responses_once object (at_start start) shown.0 acts first shown.2 i j p k r s at_i at_j;
        logged = λ i p k r at.
            let ended = responses_end object (at_start start) shown.0 acts first shown.2 i p k r at in
            logged_joined n start number es run shown.0 shown.1 legal p k r ended.0 ended.1;
      }

-- The entries and the returns of a record agree.
use Rattle.uni_record.proofs.Vocabulary.{Act, CallId, Entry, Event, HoldsResponses, Invariant-opened_world, Invoke, IsAudited, IsLegal, IsRecording, JoinsLegalLogs, Linearize, List, LogsResponses, Recording, Respond, Return, Sequential, Some, [], ap, arith, call_shown, calls_among, count_calls_of, cond, entry_shown, events_shown, history_of, log_of_run, logged_call, map, meaning, opening, option_map, refl, responses_in, slice_get, slice_get-map, subst, suc, sum_by-cons, sym, take, take-map, zero, ℕ, ◌+◌, ◌<◌, ◌==◌, ◌∙◌, ◌∷◌, ◌≡◌}
use Rattle.uni_model.specs.Chain.{Entry as Logged}
use Rattle.uni_audit.proofs.Calls.{call_named}
use Rattle.uni_record.proofs.Promised.{returns_are_responses}

module _ {I R : Type 0} where
  count_calls_of-shown : (p : ℕ) (entries : List (Entry I R)) → calls_among p (map entry_shown entries) ≡ count_calls_of p entries
  count_calls_of-shown p [] = refl
  count_calls_of-shown p (e ∷ es) =
      sum_by-cons (λ (x : Logged I R). cond (x.call.process == p) 1 0) (entry_shown e) (map entry_shown es)
      ∙ ap (λ n. cond (e.call.process == p) 1 0 + n) (count_calls_of-shown p es)
      ∙ sym (sum_by-cons (λ (x : Entry I R). cond (x.call.process == p) 1 0) e es)

  calls_shown : (entries : List (Entry I R)) → map logged_call (map entry_shown entries) ≡ map call_shown entries
  calls_shown [] = refl
  calls_shown (e ∷ es) = ap (λ cs. call_shown e ∷ cs) (calls_shown es)

  -- the entry that is shown at a place
  shown_at : (entries : List (Entry I R)) (place : ℕ) (x : Logged I R) → slice_get (map entry_shown entries) place ≡ Some x → (e : Entry I R) × (slice_get entries place ≡ Some e) × (entry_shown e ≡ x)
  shown_at [] place x is = absurd (cc)
  shown_at (e ∷ es) zero x is = (e, refl, (let same : entry_shown e ≡ x = cc in same))
  shown_at (e ∷ es) (suc place) x is = shown_at es place x is

  abbrev response_of : Return R → Act I R
  response_of r = Respond r.call.process r.call.nth r.reply

  -- the act that a return is
  response_at_place : (acts : List (Act I R)) (i : ℕ) (r : Return R) → slice_get (responses_in acts) i ≡ Some r → (j : ℕ) × (slice_get acts j ≡ Some (response_of r))
  response_at_place [] i r is = absurd (cc)
  response_at_place (Invoke p k inv ∷ acts) i r is = let rest = response_at_place acts i r is in (suc rest.0, rest.1)
  response_at_place (Linearize c ∷ acts) i r is = let rest = response_at_place acts i r is in (suc rest.0, rest.1)
  response_at_place (Respond p k reply ∷ acts) zero r is = (
    zero,
    let there : Some (record { call = record { process = p; nth = k }; reply = reply }) ≡ Some r = is in
        let same : record { call = record { process = p; nth = k }; reply = reply } ≡ r = cc in
        ap (λ (x : Return R). Some (response_of x)) same,
  )
  response_at_place (Respond p k reply ∷ acts) (suc i) r is = let rest = response_at_place acts i r is in (suc rest.0, rest.1)

  -- and the returns have the order of their acts
  responses_at_places : (acts : List (Act I R)) (i j : ℕ) (r s : Return R) → i < j → slice_get (responses_in acts) i ≡ Some r → slice_get (responses_in acts) j ≡ Some s
      → (a : ℕ) × (b : ℕ) × (a < b) × (slice_get acts a ≡ Some (response_of r)) × (slice_get acts b ≡ Some (response_of s))
  responses_at_places [] i j r s less at_i at_j = absurd (cc)
  responses_at_places (Invoke p k inv ∷ acts) i j r s less at_i at_j = let rest = responses_at_places acts i j r s less at_i at_j in (suc rest.0, suc rest.1, (let before = rest.2 in omega arith), rest.3, rest.4)
  responses_at_places (Linearize c ∷ acts) i j r s less at_i at_j = let rest = responses_at_places acts i j r s less at_i at_j in (suc rest.0, suc rest.1, (let before = rest.2 in omega arith), rest.3, rest.4)
  responses_at_places (Respond p k reply ∷ acts) i zero r s less at_i at_j = absurd (omega arith)
  responses_at_places (Respond p k reply ∷ acts) zero (suc j) r s less at_i at_j =
      let own = response_at_place (Respond p k reply ∷ []) zero r at_i in
      let rest = response_at_place acts j s at_j in
      (zero, suc rest.0, omega arith, first own.0 own.1, rest.1) where
        first : (a : ℕ) → slice_get (Respond p k reply ∷ []) a ≡ Some (response_of r) → slice_get (Respond p k reply ∷ acts) zero ≡ Some (response_of r)
        first zero is = is
        first (suc a) is = absurd (cc)
  responses_at_places (Respond p k reply ∷ acts) (suc i) (suc j) r s less at_i at_j = let rest = responses_at_places acts i j r s (omega arith) at_i at_j in (suc rest.0, suc rest.1, (let before = rest.2 in omega arith), rest.3, rest.4)

module _ {S I R : Type 0} (object : Sequential S I R) (entries : List (Entry I R)) (returns : List (Return R)) (joined : List (Logged I R)) (acts : List (Act I R)) where
  pub IsAudited-held : map entry_shown entries ≡ joined → returns ≡ responses_in acts → IsLegal object object.initial (map logged_call joined) → HoldsResponses joined acts → IsAudited object entries returns
  IsAudited-held shows told legal holds = record {
    legal = subst (IsLegal object object.initial) (ap (map logged_call) (sym shows) ∙ calls_shown entries) legal;
    numbered = λ i e at.
        holds.numbered i (entry_shown e) (ap (λ es. slice_get es i) (sym shows) ∙ slice_get-map entry_shown entries i ∙ ap (option_map entry_shown) at)
        ∙ ap (λ es. calls_among e.call.process (take i es)) (sym shows)
        ∙ ap (calls_among e.call.process) (take-map entry_shown i entries)
        ∙ count_calls_of-shown e.call.process (take i entries);
    once = λ i j r s less at_i at_j same.
        let places = responses_at_places acts i j r s less (ap (λ rs. slice_get rs i) (sym told) ∙ at_i) (ap (λ rs. slice_get rs j) (sym told) ∙ at_j) in
        let place : places.0 ≡ places.1 = holds.once places.0 places.1 r.call.process r.call.nth r.reply s.reply places.3 (places.4 ∙ ap (λ (c : CallId). Some (Respond c.process c.nth s.reply)) (sym same)) in
        let less : places.0 < places.1 = places.2 in
        absurd (omega arith);
    replied = λ i r at.
        let act = response_at_place acts i r (ap (λ rs. slice_get rs i) (sym told) ∙ at) in
        let logged = holds.logged act.0 r.call.process r.call.nth r.reply act.1 in
        let found = shown_at entries logged.0 logged.1.entry (ap (λ es. slice_get es logged.0) shows ∙ logged.1.at) in
        let process : found.0.call.process ≡ r.call.process = ap (λ (x : Logged I R). x.call.process) found.2 ∙ logged.1.process in
        let nth : found.0.call.nth ≡ r.call.nth = ap (λ (x : Logged I R). x.call.nth) found.2 ∙ logged.1.nth in
        let call : found.0.call ≡ r.call = ap (λ p. call_named p found.0.call.nth) process ∙ ap (call_named r.call.process) nth in
        (logged.0, found.0, found.1, call, ap (λ (x : Logged I R). x.response) found.2 ∙ logged.2);
  }

-- the entries of all eras of a record, and its returns
module _ {O S I R : Type 0} (sequential : O → Sequential S I R) (r : Recording O S I R) (entries : List (Entry I R)) where
  pub IsAudited-record : IsRecording sequential r → map entry_shown entries ≡ log_of_run (meaning sequential r) (opening sequential r) (events_shown r.events)
      → ((n : ℕ) (start : S) (number : ℕ) (events : List (Event I)) → JoinsLegalLogs (meaning sequential r) n start number events)
      → ((n : ℕ) (start : S) (number : ℕ) (events : List (Event I)) → LogsResponses (meaning sequential r) n start number events)
      → IsAudited (meaning sequential r) entries r.returns
  IsAudited-record is joined legal responses =
      let object = meaning sequential r in
      let events = events_shown r.events in
      IsAudited-held object entries r.returns (log_of_run object (opening sequential r) events) (history_of object (opening sequential r) events) joined
      (is.returned ∙ returns_are_responses object (opening sequential r) events (Invariant-opened_world object r.processes object.initial r.first is.positive) is.accepted)
      (legal r.processes object.initial r.first events is.positive is.accepted).legal
      (responses r.processes object.initial r.first events is.positive is.accepted)

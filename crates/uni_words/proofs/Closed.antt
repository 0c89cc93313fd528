-- What closing tells, in the words of the log.
use Rattle.uni_words.proofs.Vocabulary.{All, Anchor, AreAnswered, AreCallCells, AreCallsOf, Contains, Event, Final, HasOutcome, HasSeen, IsChained, IsInOrder, IsLegal, IsLogged, IsShown, LastHasNumber, LeadsTo, List, None, Of, ProcessCalls, Rule, Sequential, Setup, Some, State, View, WorldOf, acts_by, ap, arith, calls_by, calls_in_view, inl, inr, length, log, log_of, log_of_run, logged_call, map, opened, replied, run_history, seq_of, sequential_acts, slice_get, subst, sym, take, told_memory, ℕ, ◌∙◌, ◌≡◌, ◌≤◌}
use Rattle.uni_words.specs.Ran.{IsLogOfExecution}
use Rattle.atomic_table.specs.Table.{Seen}
use Rattle.uni_model.specs.Responses.{HoldsResponses, calls_among}
use Rattle.uni_model.proofs.Ordered.{KeepsRealTime-holds}
use Rattle.uni_model.proofs.Responses.{LogsResponses-holds}
use Rattle.uni_model.proofs.Universal.{RunIsUniversal-holds}
use Rattle.uni_words.specs.View.{Seen as SeenCalls, own_of}
use Rattle.uni_words.proofs.Closing.{calls_inside, log_of_world, shows_chain, call_cells, legal_log, answered_log}
use Rattle.uni_words.proofs.Joining.{ended_local}
use Rattle.uni_words.proofs.Rising.{last_numbered}
use Rattle.uni_words.proofs.Views.{All-each, first_or}
use Rattle.uni_words.proofs.OwnCalls.{own_is}
use Rattle.uni_words.proofs.Ordering.{in_order}
use Rattle.uni_words.proofs.Running.{idle_acts, joined_is_log}

-- what holds of the last state's world and words holds of the words that are left
left : (n : ℕ) (words : List ℕ) (w : WorldOf ℕ ℕ ℕ) (s : State ℕ View) → w.n ≡ n → s.words ≡ words
    → (P : ℕ → List ℕ → Type 0) → P w.n s.words → P n words
left n words w s count same P h = subst (λ k. P k words) count (subst (P w.n) same h)

module _ {O : Type 0} (meaning : O → Sequential ℕ ℕ ℕ) (told setup : Setup O) (same : told ≡ setup) (id : ℕ) (view : View) (words xs : List ℕ)
    (final : Final (Seen (Rule meaning told) id view) words xs) where
  last : Final (Seen (Rule meaning setup) id view) words xs
  last = subst (λ key. Final (Seen (Rule meaning key) id view) words xs) same final

  abbrev w : WorldOf ℕ ℕ ℕ
  w = last.1.0.0

  is : IsShown (meaning setup.object) setup.k last.1.0.0 last.0
  is = last.1.0.2

  pub closed_chain : IsChained setup.n setup.k words
  closed_chain = left setup.n words w last.0 last.1.0.1 last.2 (λ n ws. IsChained n setup.k ws) (shows_chain (meaning setup.object) setup.k w last.0 is)

  pub closed_first : seq_of (told_memory setup.n setup.k words) Anchor ≡ 1
  closed_first = let chain = closed_chain in sym chain.numbered.anchor ∙ chain.first

  pub closed_cells : AreCallCells setup.n setup.k words
  closed_cells = left setup.n words w last.0 last.1.0.1 last.2 (λ n ws. AreCallCells n setup.k ws) (call_cells (meaning setup.object) setup.k w last.0 is)

  pub closed_legal : IsLegal (meaning setup.object) (meaning setup.object).initial (map logged_call (log_of setup.n setup.k words))
  closed_legal = left setup.n words w last.0 last.1.0.1 last.2
      (λ n ws. IsLegal (meaning setup.object) (meaning setup.object).initial (map logged_call (log_of n setup.k ws))) (legal_log (meaning setup.object) setup.k w last.0 is)

  pub closed_inside : AreCallsOf setup.n (log_of setup.n setup.k words)
  closed_inside = left setup.n words w last.0 last.1.0.1 last.2 (λ n ws. AreCallsOf n (log_of n setup.k ws)) (calls_inside (meaning setup.object) setup.k w last.0 is)

  pub closed_answered : AreAnswered (log_of setup.n setup.k words)
  closed_answered = left setup.n words w last.0 last.1.0.1 last.2 (λ n ws. AreAnswered (log_of n setup.k ws)) (answered_log (meaning setup.object) setup.k w last.0 is)

  -- the seat's process and those that it took in have no call pending, and their calls have returned
  ended : view.known.its.call ≡ None → 1 ≤ view.known.count → (c : ProcessCalls ℕ ℕ) → Contains (calls_in_view view) c
      → (w.begun c.process ≡ length c.calls) × ((j : ℕ) (a : ℕ × ℕ) → slice_get c.calls j ≡ Some a → HasOutcome w.memory (Of c.process j) a.0 a.1)
  ended idle any c has = elim (first_or _ _ c has) [
    | inl here ↦
        let local = (is.seats.each id view last.1.1).each view.known.first (omega arith) (omega (arith, any)) in
        subst (λ (k : ProcessCalls ℕ ℕ). (w.begun k.process ≡ length k.calls) × ((j : ℕ) (a : ℕ × ℕ) → slice_get k.calls j ≡ Some a → HasOutcome w.memory (Of k.process j) a.0 a.1)) here
        (ended_local w view.known.first view.known.its local.1 idle, local.1.own)
    | inr taken ↦ let its = ((is.seats.each id view last.1.1).taken c taken).1 in (its.begun, its.own)
  ]

  -- so their calls in the log are these
  closed_calls : view.known.count ≡ 1 → view.known.its.call ≡ None → (c : ProcessCalls ℕ ℕ) → Contains (calls_in_view view) c → calls_by c.process (log_of setup.n setup.k words) ≡ map replied c.calls
  closed_calls single idle c has =
      let its = ended idle (let one = single in omega arith) c has in
      left setup.n words w last.0 last.1.0.1 last.2 (λ n ws. calls_by c.process (log_of n setup.k ws) ≡ map replied c.calls)
      (own_is (meaning setup.object) setup.k w last.0 is c.process c.calls its.0 its.1)

  abbrev object : Sequential ℕ ℕ ℕ
  object = meaning setup.object

  abbrev events : List (Event ℕ)
  events = last.1.0.3.0

  run : LeadsTo object setup.n events w last.0.views
  run = last.1.0.3.1

  joined : log_of_run object (opened object setup.n) events ≡ log_of setup.n setup.k words
  joined = joined_is_log object (opened object setup.n) events run.one_era
      ∙ (ap log run.reached ∙ left setup.n words w last.0 last.1.0.1 last.2 (λ n ws. log w ≡ log_of n setup.k ws) (log_of_world object setup.k w last.0 is))

  responses : HoldsResponses (log_of setup.n setup.k words) (run_history object setup.n events)
  responses = subst (λ l. HoldsResponses l (run_history object setup.n events)) joined (LogsResponses-holds object setup.n object.initial 1 events (omega arith) run.accepted)

  -- each is numbered as in the run's history
  pub closed_logged : view.known.count ≡ 1 → view.known.its.call ≡ None → (c : ProcessCalls ℕ ℕ) → Contains (calls_in_view view) c → IsLogged (log_of setup.n setup.k words) c
  closed_logged single idle c has = record {
    calls = closed_calls single idle c has;
    numbered = λ place e at mine. subst (λ p. e.call.nth ≡ calls_among p (take place (log_of setup.n setup.k words))) mine (responses.numbered place e at);
  }

  -- what the seat has seen was so in the run
  was_seen : (t : SeenCalls) → Contains view.known.seen t → HasSeen object setup.n events t
  was_seen t has = run.seen id view last.1.1 t has

  -- the run that the rule carries, and the execution
  pub closed_execution : view.known.count ≡ 1 → view.known.its.call ≡ None → IsLogOfExecution object setup.n setup.k (log_of setup.n setup.k words) (calls_in_view view) view.known.seen
  closed_execution single idle = (
    (
      record {
        events = events;
        accepted = run.accepted;
        one_era = run.one_era;
        universal = RunIsUniversal-holds object setup.n object.initial 1 events (omega arith) run.accepted;
        real_time = KeepsRealTime-holds object setup.n object.initial 1 events;
        responses = responses;
        joined = joined;
        acts = λ c has. elim (first_or _ _ c has) [
          | inl here ↦ subst (λ (k : ProcessCalls ℕ ℕ). acts_by k.process (run_history object setup.n events) ≡ sequential_acts k.process 0 k.calls) here
              (idle_acts object setup.n events w last.0.views run id view last.1.1 (let one = single in omega arith) idle)
          | inr taken ↦ run.taken id view last.1.1 c taken
        ];
      },
      All-each (HasSeen object setup.n events) view.known.seen was_seen,
    ),
    (last.1.0.3.2.0, last.1.0.3.2.2),
  )

  pub closed_order : All (IsInOrder (log_of setup.n setup.k words)) view.known.seen
  closed_order = All-each (IsInOrder (log_of setup.n setup.k words)) view.known.seen (λ t has. subst (λ l. IsInOrder l t) joined (in_order object setup.n events run.accepted t (was_seen t has)))

  -- the seat's latest call has the number that the seat knows
  pub closed_number : view.known.count ≡ 1 → LastHasNumber (log_of setup.n setup.k words) (own_of view.known) view.known.its.number
  closed_number single = left setup.n words w last.0 last.1.0.1 last.2 (λ n ws. LastHasNumber (log_of n setup.k ws) (own_of view.known) view.known.its.number)
      (last_numbered object setup.k w last.0 is id view last.1.1 single)

-- A seat asks about a call.
use Rattle.uni_words.proofs.Vocabulary.{All, All-append, All-contains, All-map, Allows, Anchor, CallId, Contains, Contains-append_cases, Event, FirstCalls, Has, HasAsked, HasCall, HasReturned, HasSeen, InvOf, IsShown, Known, Leads, LeadsTo, List, Me, Name, None, Of, ProcessCalls, Seen, SeqOf, Sequential, ShowsRun, Some, StandInLog, StandsAt, State, View, WorldOf, [], after_word, all_of, ap, append-nil, arith, asked_of, calls_in_view, chain, get_elem?, inl, inr, inv_of, keeps, length, log, log_of_run, logged_in_view, lt_cases, map, opened, option_and_then, own_of, refl, response_in, seen_of, seq_of, slice_get, slice_index, slice_set, some, subst, suc, sym, told_by, up_to, word_at, word_of, zero, ℕ, ◌+◌, ◌<◌, ◌∙◌, ◌∷◌, ◌≡◌, ◌≤◌}
use Rattle.uni_words.specs.Execution.Next.{Ask}
use Rattle.uni_words.proofs.Ran.{one_step}
use Rattle.atomic_table.specs.Table.{Step}
use Rattle.uni_model.proofs.Growing.{entry_of, slice_get-log}
use Rattle.uni_model.proofs.OneLists.{HasOneList-held}
use Rattle.uni_words.proofs.Columns.{one_place}
use Rattle.uni_words.proofs.Happens.{knows_more, own_local}
use Rattle.uni_words.proofs.Locality.{word_here}
use Rattle.uni_words.proofs.Ordering.{StandInLog-later}
use Rattle.uni_words.proofs.Running.{idle_acts, joined_is_log, led, no_more, run_stays}
use Rattle.uni_words.proofs.Underway.{there_below}
use Rattle.uni_words.proofs.Views.{All-each, first_or}

module _ (object : Sequential ℕ ℕ ℕ) (row : ℕ) (w : WorldOf ℕ ℕ ℕ) (s : State ℕ View) (is : IsShown object row w s) where
  abbrev num : Name → ℕ
  num = is.sound.0

  -- the number of a cell, as its word tells it
  pub number_told : (x : Name) (i : ℕ) → word_of w.n row (SeqOf x) ≡ Some i → seq_of w.memory x ≡ slice_index s.words i
  number_told x i word = ap (λ m. seq_of m x) is.words.memory ∙ word_here w.n row s.words is.words.wide (SeqOf x) i word

  -- a call that has begun has its invocation
  invoked : (p k : ℕ) → k < w.begun p → Has (inv_of w.memory (Of p k))
  invoked p k below = elim (lt_cases k (w.begun p)) [
    | inl inside ↦ (word_at w.n row s.words (InvOf (Of p k)), ap (λ m. inv_of m (Of p k)) is.words.memory ∙ rw inside.1 refl)
    | inr past ↦ absurd (let h = past.0 in omega arith)
  ]

  -- a call that has returned has a number
  pub returned_numbered : (p k : ℕ) → HasReturned w p k → 1 ≤ seq_of w.memory (Of p k)
  returned_numbered p k over = elim (is.sound.2.calls.threaded p k (invoked p k over.begun)) [
    | inl threaded ↦ threaded
    | inr pending ↦ absurd (over.over pending.0 pending.1 pending.2)
  ]

  -- a cell that has a number is linked
  linked : (x : Name) → 1 ≤ seq_of w.memory x → 1 ≤ num x
  linked x threaded = subst (λ t. 1 ≤ t) (is.sound.2.numbered.seq x threaded) threaded

  -- where a call has a number, so has each that its process made before it
  numbered_before : (p k i : ℕ) → i ≤ k → 1 ≤ seq_of w.memory (Of p k) → 1 ≤ seq_of w.memory (Of p i)
  numbered_before p k i less threaded = elim (lt_cases i k) [
    | inl below ↦
        let begun = is.sound.2.calls.begun p k (is.sound.2.calls.linked p k (linked (Of p k) threaded)) in
        returned_numbered p i (record {
          begun = (let b = begun.2 in let a = below.0 in omega arith);
          over = λ c pending same.
              let its = is.sound.2.calls.mine p c pending in
              let cell : Of p its.0 ≡ Of p i = sym its.1 ∙ same in
              let here : its.0 ≡ i = cc in
              let last = its.2 in
              let b = begun.2 in
              let a = below.0 in
              omega arith;
        })
    | inr same ↦ (let here : k ≡ i = (let a = same.0 in omega arith) in subst (λ j. 1 ≤ seq_of w.memory (Of p j)) here threaded)
  ]

  -- a call that has a number stands in the log
  stands_logged : (p k : ℕ) → 1 ≤ seq_of w.memory (Of p k) → (j : ℕ) × StandsAt (log w) p k j
  stands_logged p k threaded =
      let made = is.sound.2.calls.linked p k (linked (Of p k) threaded) in
      let at = (HasOneList-held object w (is.sound.0, is.sound.1, is.sound.2)).1.only (Of p k) threaded in
      by_place made at.0 at.1 where
        by_place : Has (inv_of w.memory (Of p k)) → (j : ℕ) → slice_get (Anchor ∷ chain w) j ≡ Some (Of p k) → (j : ℕ) × StandsAt (log w) p k j
        by_place made zero at = absurd (let e : Anchor ≡ Of p k = cc in cc)
        by_place made (suc j) at = (
          j,
          record {
            entry = record { number = seq_of w.memory Anchor + 1 + j; call = record { process = p; nth = k; inv = made.0 }; response = response_in w.memory (Of p k) };
            at = slice_get-log object w is.sound.0 is.sound.1 is.sound.2 j ∙ ap (option_and_then (entry_of w.memory (seq_of w.memory Anchor + 1 + j))) at ∙ rw made.1 refl;
            process = refl;
            nth = refl;
          },
        )

  -- the calls that a seat has in its view have their numbers
  had : (id : ℕ) (v : View) → get_elem? s.views id ≡ some v → 1 ≤ v.known.count → (c : ProcessCalls ℕ ℕ) → Contains (calls_in_view v) c → (j : ℕ) → j < length c.calls → 1 ≤ seq_of w.memory (Of c.process j)
  had id v at some_left c has = elim (first_or _ _ c has) [
    | inl here ↦
        let local = (is.seats.each id v at).each v.known.first (omega arith) (omega (arith, some_left)) in
        subst (λ (k : ProcessCalls ℕ ℕ). (j : ℕ) → j < length k.calls → 1 ≤ seq_of w.memory (Of k.process j)) here
        (λ j below. let a = there_below v.known.its.own j below in (local.1.own j a.0 a.1).threaded)
    | inr taken ↦ λ j below. let a = there_below c.calls j below in (((is.seats.each id v at).taken c taken).1.own j a.0 a.1).threaded
  ]

  module _ (n : ℕ) (events : List (Event ℕ)) (run : LeadsTo object n events w s.views) where
    logged : (p k : ℕ) → 1 ≤ seq_of w.memory (Of p k) → (j : ℕ) × StandsAt (log_of_run object (opened object n) events) p k j
    logged p k threaded = subst (λ l. (j : ℕ) × StandsAt l p k j) (sym (joined_is_log object (opened object n) events run.one_era ∙ ap log run.reached)) (stands_logged p k threaded)

    -- all calls of which a seat knows stand in the log
    pub view_logged : (id : ℕ) (v : View) → get_elem? s.views id ≡ some v → 1 ≤ v.known.count → All (StandInLog object n events) (logged_in_view v)
    view_logged id v at some_left = All-append (StandInLog object n events) (map all_of (calls_in_view v)) (map (λ (t : Seen). t.earlier) v.known.seen)
        (All-map (StandInLog object n events) all_of (calls_in_view v)
        (All-each (λ c. StandInLog object n events (all_of c)) (calls_in_view v) (λ c has j below. logged c.process j (had id v at some_left c has j below))))
        (All-map (StandInLog object n events) (λ (t : Seen). t.earlier) v.known.seen
        (All-each (λ (t : Seen). StandInLog object n events t.earlier) v.known.seen (λ t has. StandInLog-later object n events run.accepted t (run.seen id v at t has))))

    -- at this time a seat with no call pending sees that these stand there
    pub sees_now : (id : ℕ) (v : View) → get_elem? s.views id ≡ some v → 1 ≤ v.known.count → v.known.its.call ≡ None → (earlier : List FirstCalls) → All (StandInLog object n events) earlier
        → (t : Seen) → Contains (seen_of (own_of v.known) earlier) t → HasSeen object n events t
    sees_now id v at some_left idle earlier all t has = All-contains (HasSeen object n events) (seen_of (own_of v.known) earlier) t
        (All-map (HasSeen object n events) (λ (its : FirstCalls). record { earlier = its; made = own_of v.known }) earlier
        (All-each (λ (its : FirstCalls). HasSeen object n events (record { earlier = its; made = own_of v.known })) earlier
        (λ its there. record {
          before = events;
          after = [];
          joins = sym (append-nil events);
          earlier = All-contains (StandInLog object n events) earlier its all there;
          made = idle_acts object n events w s.views run id v at some_left idle;
        }))) has

  module _ (id : ℕ) (v : Known) (at : get_elem? s.views id ≡ some (record { known = v })) (single : v.count ≡ 1) (idle : v.its.call ≡ None)
      (call : CallId) (i : ℕ) (word : word_of w.n row (SeqOf (Of call.process call.nth)) ≡ Some i) where
    abbrev found : ℕ
    found = slice_index s.words i

    told_logged : (n : ℕ) (events : List (Event ℕ)) → LeadsTo object n events w s.views → (u : ℕ) → seq_of w.memory (Of call.process call.nth) ≡ u → All (StandInLog object n events) (told_by call u)
    told_logged n events run zero e = λ k d inside. absurd (omega arith)
    told_logged n events run (suc u) e = All-each (StandInLog object n events) (up_to call ∷ []) (λ its has. elim (first_or (up_to call) [] its has) [
      | inl same ↦ subst (StandInLog object n events) same (λ k below. logged n events run call.process k (numbered_before call.process call.nth k (omega (arith, below)) (omega (arith, e))))
      | inr none ↦ absurd (let k = none.1 in omega arith)
    ])

    asked_run : (n : ℕ) (events : List (Event ℕ)) → LeadsTo object n events w s.views → LeadsTo object n events w (slice_set s.views id (record { known = asked_of v call found }))
    asked_run n events run = run_stays object n row w s is events run id v at single (asked_of v call found) refl single refl
        (λ t has. elim (Contains-append_cases v.seen (seen_of (own_of v) (told_by call found)) t has) [
          | inl old ↦ run.seen id (record { known = v }) at t old
          | inr new ↦ sees_now n events run id (record { known = v }) at (let one = single in omega arith) idle (told_by call found) (told_logged n events run found (number_told (Of call.process call.nth) i word)) t new
        ])
        refl refl refl

    pub asked_leads : Leads object row w s [] w (after_word s i found id (asked_of v call found))
    asked_leads = record {
      shown = knows_more object row w s is id v at single i (asked_of v call found) refl refl refl single refl (own_local object row w s is id v at single);
      run = λ n events run. no_more object n events w (slice_set s.views id (record { known = asked_of v call found })) (asked_run n events run);
    }

  -- a call that the seat has is found to be there
  pub has_number : (id : ℕ) (v : View) → get_elem? s.views id ≡ some v → 1 ≤ v.known.count → (call : CallId) (i : ℕ) → word_of w.n row (SeqOf (Of call.process call.nth)) ≡ Some i → HasCall v call → 1 ≤ slice_index s.words i
  has_number id v at some_left call i word has =
      subst (λ t. 1 ≤ t) (number_told (Of call.process call.nth) i word) (subst (λ p. 1 ≤ seq_of w.memory (Of p call.nth)) has.2 (had id v at some_left has.0 has.1 call.nth has.3))

-- two calls whose number is the same word are the same call
same_call : (n row i : ℕ) (a b : CallId) → word_of n row (SeqOf (Of a.process a.nth)) ≡ Some i → word_of n row (SeqOf (Of b.process b.nth)) ≡ Some i → a ≡ b
same_call n row i a b at_a at_b =
    let place : SeqOf (Of a.process a.nth) ≡ SeqOf (Of b.process b.nth) = one_place n row (SeqOf (Of a.process a.nth)) (SeqOf (Of b.process b.nth)) i at_a at_b in
    let process : a.process ≡ b.process = cc in
    let nth : a.nth ≡ b.nth = cc in
    both process nth where
      both : a.process ≡ b.process → a.nth ≡ b.nth → a ≡ b
      both process nth = ap (λ k. record { process = k; nth = a.nth }) process ∙ ap (λ k. record { process = b.process; nth = k }) nth

pub asks : (object : Sequential ℕ ℕ ℕ) (row n slots id i : ℕ) (st : Step ℕ) (me : Me ℕ View) → me.0.known.n ≡ n → me.0.known.row ≡ row → me.0.known.count ≡ 1 → me.0.known.its.call ≡ None → st.word ≡ i → (call : CallId)
    → word_of n row (SeqOf (Of call.process call.nth)) ≡ Some i
    → Allows (ShowsRun object n row) slots id me i (λ x. x) (λ found me'. HasAsked st me found me')
asks object row n slots id i st me n_is row_is single idle at_word call word_n s shown deep at small =
    let w : WorldOf ℕ ℕ ℕ = shown.0 in
    let some_left : 1 ≤ me.0.known.count = (let one = single in omega arith) in
    let word : word_of w.n row (SeqOf (Of call.process call.nth)) ≡ Some i = subst (λ k. word_of k row (SeqOf (Of call.process call.nth)) ≡ Some i) (sym shown.1) word_n in (
      record { known = asked_of me.0.known call (slice_index s.words i) },
      keeps,
      tt,
      led n shown.1 shown.3 (one_step object n row s id me.0.known (at, single) (Ask call idle) i word_n) (asked_leads object row w s shown.2 id me.0.known at single idle call i word),
      λ other e.
          let other_word : word_of n row (SeqOf (Of other.process other.nth)) ≡ Some i = subst (λ k. word_of k row (SeqOf (Of other.process other.nth)) ≡ Some i) n_is (subst (λ r. word_of me.0.known.n r (SeqOf (Of other.process other.nth)) ≡ Some i) row_is (e ∙ ap Some at_word)) in (
            ap (λ c. (record { known = asked_of me.0.known c (slice_index s.words i) }, me.1)) (same_call n row i call other word_n other_word),
            has_number object row w s shown.2 id me.0 at some_left other i (subst (λ k. word_of k row (SeqOf (Of other.process other.nth)) ≡ Some i) (sym shown.1) other_word),
          ),
    )

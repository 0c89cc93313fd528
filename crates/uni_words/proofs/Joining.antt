-- A seat takes in another one.
use Rattle.uni_words.proofs.Vocabulary.{Contains, Contains-append_cases, Event, HasSeen, IsAmong, IsLocal, IsShown, IsTaken, Joins, Leads, LeadsTo, List, None, Process, ProcessCalls, Seen, Sequential, ShowsRun, State, Tells, View, WorldOf, [], acts_by, acts_in_view, after_join, arith, at_set, calls_in_view, get_elem?, if◌then◌else◌, inl, inr, length, logged_in_view, nobody, number_cases, pending_count, refl, run_history, sequential_acts, set, set_else, some, subst, sym, took_in, ℕ, ◌+◌, ◌==◌, ◌∙◌, ◌≡◌, ◌≢◌, ◌≤◌}
use Rattle.uni_words.specs.Execution.Execution.{Ends, Joins as JoinsNext}
use Rattle.uni_words.proofs.Asking.{sees_now, view_logged}
use Rattle.uni_words.proofs.Running.{idle_acts, led, no_more}
use Rattle.uni_words.proofs.Views.{Holds-set, first_or}

-- the calls of a process of which nothing is pending
pub ended_local : (w : WorldOf ℕ ℕ ℕ) (p : ℕ) (its : Process) → IsLocal w p its → its.call ≡ None → w.begun p ≡ length its.own
ended_local w p its local idle = local.begun ∙ (let c : its.begun ≡ length its.own + 0 = subst (λ o. its.begun ≡ length its.own + pending_count o) idle local.counted in omega arith)

module _ (object : Sequential ℕ ℕ ℕ) (row id : ℕ) (v : View) (some_left : 1 ≤ v.known.count) (own_idle : v.known.its.call ≡ None) (other : ℕ) (x : View) (single : x.known.count ≡ 1) (idle : x.known.its.call ≡ None) where
  module _ (w : WorldOf ℕ ℕ ℕ) (s : State ℕ View) (is : IsShown object row w s) (at : get_elem? s.views id ≡ some v) (apart : other ≡ id → ⊥)
      (there : get_elem? s.views other ≡ some x) where
    abbrev views' : List View
    views' = set (set s.views id (took_in v x)) other nobody

    -- the processes of the other seat go over
    abbrev owner' : ℕ → ℕ
    owner' q = if is.seats.owner q == other then id else is.seats.owner q

    goes_over : (q : ℕ) → is.seats.owner q ≡ other → owner' q ≡ id
    goes_over q e = elim (number_cases (is.seats.owner q) other) [ inl same ↦ rw same.1 refl | inr away ↦ absurd (away.0 e) ]

    stays : (q j : ℕ) → is.seats.owner q ≡ j → j ≢ other → owner' q ≡ j
    stays q j e away = elim (number_cases (is.seats.owner q) other) [ inl same ↦ absurd (away (sym e ∙ same.0)) | inr off ↦ rw off.1 e ]

    told : Tells w is.seats.owner row id v.known
    told = is.seats.each id v at

    told_other : Tells w is.seats.owner row other x.known
    told_other = is.seats.each other x there

    local_other : (is.seats.owner x.known.first ≡ other) × IsLocal w x.known.first x.known.its
    local_other = told_other.each x.known.first (omega arith) (omega (arith, single))

    -- none of the other seat's processes is one of the seat
    not_among : (q : ℕ) → is.seats.owner q ≡ other → IsAmong q v.known → ⊥
    not_among q e among = apart (sym e ∙ (told.each q among.0 among.1).0)

    now_taken : (c : ProcessCalls ℕ ℕ) → Contains (calls_in_view x) c → (owner' c.process ≡ id) × IsTaken w c × (IsAmong c.process v.known → ⊥)
    now_taken c has = elim (first_or _ _ c has) [
      | inl here ↦ subst (λ k. (owner' k.process ≡ id) × IsTaken w k × (IsAmong k.process v.known → ⊥)) here (
        goes_over x.known.first local_other.0,
        record {
          inside = local_other.1.inside;
          call = local_other.1.call ∙ idle;
          begun = ended_local w x.known.first x.known.its local_other.1 idle;
          own = local_other.1.own;
        },
        not_among x.known.first local_other.0,
      )
      | inr taken ↦ let its = told_other.taken c taken in (goes_over c.process its.0, its.1, not_among c.process its.0)
    ]

    seats_later : (j : ℕ) (u : View) → get_elem? views' j ≡ some u → Tells w owner' row j u.known
    seats_later j u e = elim (at_set (set s.views id (took_in v x)) other j nobody u e) [
      | inl spent ↦ subst (λ (z : View). Tells w owner' row j z.known) spent.1 (record {
        processes = λ any. absurd (omega arith);
        calls = λ any. absurd (omega arith);
        several = λ two. absurd (omega arith);
        each = λ q from to. absurd (omega arith);
        taken = λ c has. absurd (let k = has.1 in omega arith);
      })
      | inr left ↦ elim (at_set s.views id j (took_in v x) u left.1) [
        | inl mine ↦
            subst (λ (z : View). Tells w owner' row j z.known) mine.1
            (subst (λ k. Tells w owner' row k (took_in v x).known) (sym mine.0)
            (record {
              processes = told.processes;
              calls = told.calls;
              several = told.several;
              each = λ q from to. let local = told.each q from to in (stays q id local.0 (λ same. apart (sym same)), local.1);
              taken = λ c has. elim (Contains-append_cases v.known.taken (calls_in_view x) c has) [
                | inl old ↦ let its = told.taken c old in (stays c.process id its.0 (λ same. apart (sym same)), its.1, its.2)
                | inr new ↦ now_taken c new
              ];
            }))
        | inr rest ↦
            let its = is.seats.each j u rest.1 in
            record {
              processes = its.processes;
              calls = its.calls;
              several = its.several;
              each = λ q from to. let local = its.each q from to in (stays q j local.0 left.0, local.1);
              taken = λ c has. let taken = its.taken c has in (stays c.process j taken.0 left.0, taken.1, taken.2);
            }
      ]
    ]

    join_kept : IsShown object row w (record { words = s.words; homes = s.homes; views = views' })
    join_kept = record { words = is.words; seats = record { owner = owner'; each = seats_later }; sound = is.sound; counts = is.counts }

    module _ (n : ℕ) (events : List (Event ℕ)) (run : LeadsTo object n events w s.views) where
      abbrev Acts : ProcessCalls ℕ ℕ → Type 0
      Acts c = acts_by c.process (run_history object n events) ≡ sequential_acts c.process 0 c.calls

      acts_taken : (c : ProcessCalls ℕ ℕ) → Contains (calls_in_view x) c → Acts c
      acts_taken c has = elim (first_or _ _ c has) [
        | inl here ↦ subst Acts here (idle_acts object n events w s.views run other x there (omega (arith, single)) idle)
        | inr taken ↦ run.taken other x there c taken
      ]

      -- what the other one saw, and that all calls of which it knows stand in the log
      sees : (t : Seen) → Contains (took_in v x).known.seen t → HasSeen object n events t
      sees t has = elim (Contains-append_cases v.known.seen _ t has) [
        | inl own ↦ run.seen id v at t own
        | inr more ↦ elim (Contains-append_cases x.known.seen _ t more) [
          | inl theirs ↦ run.seen other x there t theirs
          | inr new ↦ sees_now object row w s is n events run id v at some_left own_idle (logged_in_view x) (view_logged object row w s is n events run other x there (omega (arith, single))) t new
        ]
      ]

      join_run : LeadsTo object n events w views'
      join_run = record {
        accepted = run.accepted;
        one_era = run.one_era;
        reached = run.reached;
        acts = λ j u e p among. elim (at_set (set s.views id (took_in v x)) other j nobody u e) [
          | inl spent ↦ absurd (let none : IsAmong p nobody.known = subst (λ (z : View). IsAmong p z.known) (sym spent.1) among in omega (arith, none.0, none.1))
          | inr left ↦ elim (at_set s.views id j (took_in v x) u left.1) [
            | inl mine ↦
                subst (λ (z : View). acts_by p (run_history object n events) ≡ acts_in_view p z.known) mine.1
                (run.acts id v at p (subst (λ (z : View). IsAmong p z.known) (sym mine.1) among))
            | inr rest ↦ run.acts j u rest.1 p among
          ]
        ];
        taken = Holds-set (λ (u : View). u.known.taken) Acts (set s.views id (took_in v x)) other nobody
            (Holds-set (λ (u : View). u.known.taken) Acts s.views id (took_in v x) run.taken
            (λ c has. elim (Contains-append_cases v.known.taken (calls_in_view x) c has) [ inl old ↦ run.taken id v at c old | inr new ↦ acts_taken c new ]))
            (λ c has. absurd (let k = has.1 in omega arith));
        seen = Holds-set (λ (u : View). u.known.seen) (HasSeen object n events) (set s.views id (took_in v x)) other nobody
            (Holds-set (λ (u : View). u.known.seen) (HasSeen object n events) s.views id (took_in v x) run.seen sees)
            (λ a has. absurd (let k = has.1 in omega arith));
      }

    pub join_leads : Leads object row w s [] w (after_join s id v other x)
    join_leads = record { shown = join_kept; run = λ n events run. no_more object n events w views' (join_run n events run) }

  pub joins : (n : ℕ) → Joins (ShowsRun object n row) id v other x (took_in v x) nobody
  joins n s shown at apart there =
      let it : get_elem? s.views other ≡ some x = sym (set_else s.views id other (took_in v x) apart) ∙ there in
      led n shown.1 shown.3 (JoinsNext id v other x at it apart some_left own_idle single idle Ends, refl, refl) (join_leads shown.0 s shown.2 at apart it)

-- A seat of several processes is cut in two.
use Rattle.uni_words.proofs.Vocabulary.{Contains, Event, HasSeen, IsAmong, IsLocal, IsShown, Leads, LeadsTo, List, ProcessCalls, Sequential, ShowsRun, Splits, State, Tells, View, WorldOf, [], acts_by, acts_in_view, after_split, ap, arith, at_set, first_alone, get_elem?, inl, inr, length, length-set, others, refl, run_history, sequential_acts, set, set_at, set_at_elsewhere, set_at_same, some, some-ne-none, subst, suc, sym, zero, ℕ, ◌++◌, ◌<◌, ◌∙◌, ◌∷◌, ◌≡◌, ◌≢◌, ◌≤◌}
use Rattle.uni_words.specs.Execution.Execution.{Ends, Splits as SplitsNext}
use Rattle.uni_model.proofs.Each.{at_end}
use Rattle.uni_words.proofs.Happens.{taken_apart}
use Rattle.uni_words.proofs.Running.{led, no_more}
use Rattle.uni_words.proofs.Views.{Holds-kept, Holds-push}

at_below : {A : Type 0} (l : List A) (j : ℕ) (b : A) → get_elem? l j ≡ some b → j < length l
at_below [] j b e = absurd (some-ne-none b (sym e))
at_below (x ∷ xs) zero b e = omega arith
at_below (x ∷ xs) (suc j) b e = let h = at_below xs j b e in omega arith

module _ (object : Sequential ℕ ℕ ℕ) (row id : ℕ) (v : View) (some_left : 1 ≤ v.known.count) where
  module _ (w : WorldOf ℕ ℕ ℕ) (s : State ℕ View) (is : IsShown object row w s) (at : get_elem? s.views id ≡ some v) where
    abbrev seat_of : ℕ → ℕ
    seat_of = set_at is.seats.owner v.known.first (length s.views)

    abbrev views' : List View
    views' = set s.views id (others v) ++ first_alone v ∷ []

    told : Tells w is.seats.owner row id v.known
    told = is.seats.each id v at

    first_local : (is.seats.owner v.known.first ≡ id) × IsLocal w v.known.first v.known.its
    first_local = told.each v.known.first (omega arith) (omega (arith, some_left))

    -- a process that isn't the one that leaves has its seat as before
    stays : (q : ℕ) → q ≢ v.known.first → seat_of q ≡ is.seats.owner q
    stays q apart = set_at_elsewhere is.seats.owner v.known.first (length s.views) q apart

    taken_stays : (j : ℕ) (u : View) (there : get_elem? s.views j ≡ some u) (c : ProcessCalls ℕ ℕ) → Contains u.known.taken c → seat_of c.process ≡ is.seats.owner c.process
    taken_stays j u there c has = stays c.process (taken_apart object row w s is id v at some_left j u there c has)

    seats_later : (j : ℕ) (u : View) → get_elem? views' j ≡ some u → Tells w seat_of row j u.known
    seats_later j u e = elim (at_end (set s.views id (others v)) (first_alone v) u j e) [
      | inl old ↦ elim (at_set s.views id j (others v) u old) [
        | inl mine ↦
            subst (λ (z : View). Tells w seat_of row j z.known) mine.1
            (subst (λ k. Tells w seat_of row k (others v).known) (sym mine.0)
            (record {
              processes = λ any. told.processes some_left;
              calls = λ any. told.calls some_left;
              several = λ two. told.several (omega (arith, two));
              taken = λ c has. let its = told.taken c has in (taken_stays id v at c has ∙ its.0, its.1, λ among. its.2 (omega (arith, among.0), omega (arith, among.1, some_left)));
              each = λ q from to.
                  let local = told.each q (omega (arith, from)) (omega (arith, to, some_left)) in
                  (stays q (λ same. omega (arith, same, from)) ∙ local.0, local.1);
            }))
        | inr other ↦
            let its = is.seats.each j u other.1 in
            record {
              processes = its.processes;
              calls = its.calls;
              several = its.several;
              taken = λ c has. let taken = its.taken c has in (taken_stays j u other.1 c has ∙ taken.0, taken.1, taken.2);
              each = λ q from to.
                  let local = its.each q from to in
                  (stays q (λ same. other.0 (sym local.0 ∙ (ap is.seats.owner same ∙ first_local.0))) ∙ local.0, local.1);
            }
      ]
      | inr new ↦
          let place : j ≡ length s.views = new.0 ∙ length-set s.views id (others v) in
          subst (λ (z : View). Tells w seat_of row j z.known) new.1
          (record {
            processes = λ any. told.processes some_left;
            calls = λ any. told.calls some_left;
            several = λ two. absurd (omega (arith, two));
            taken = λ c has. absurd (let k = has.1 in omega arith);
            each = λ q from to.
                let same : v.known.first ≡ q = omega (arith, from, to) in
                subst (λ k. (seat_of k ≡ j) × IsLocal w k v.known.its) same (set_at_same is.seats.owner v.known.first (length s.views) ∙ sym place, first_local.1);
          })
    ]

    split_kept : IsShown object row w (record { words = s.words; homes = s.homes; views = views' })
    split_kept = record { words = is.words; seats = record { owner = seat_of; each = seats_later }; sound = is.sound; counts = is.counts }

    split_run : (n : ℕ) (events : List (Event ℕ)) → LeadsTo object n events w s.views → LeadsTo object n events w views'
    split_run n events run = record {
      accepted = run.accepted;
      one_era = run.one_era;
      reached = run.reached;
      acts = λ j u e p among. elim (at_end (set s.views id (others v)) (first_alone v) u j e) [
        | inl old ↦ elim (at_set s.views id j (others v) u old) [
          | inl mine ↦
              let here : IsAmong p (others v).known = subst (λ (z : View). IsAmong p z.known) (sym mine.1) among in
              subst (λ (z : View). acts_by p (run_history object n events) ≡ acts_in_view p z.known) mine.1
              (run.acts id v at p (omega (arith, here.0), omega (arith, here.1, some_left)))
          | inr other ↦ run.acts j u other.1 p among
        ]
        | inr new ↦
            let here : IsAmong p (first_alone v).known = subst (λ (z : View). IsAmong p z.known) (sym new.1) among in
            subst (λ (z : View). acts_by p (run_history object n events) ≡ acts_in_view p z.known) new.1
            (run.acts id v at p (here.0, omega (arith, here.1, some_left)))
      ];
      taken = Holds-push (λ (u : View). u.known.taken) Acts (set s.views id (others v)) (first_alone v) (Holds-kept (λ (u : View). u.known.taken) Acts s.views id v (others v) at refl run.taken) (λ a has. absurd (let k = has.1 in omega arith));
      seen = Holds-push (λ (u : View). u.known.seen) (HasSeen object n events) (set s.views id (others v)) (first_alone v)
          (Holds-kept (λ (u : View). u.known.seen) (HasSeen object n events) s.views id v (others v) at refl run.seen) (λ a has. absurd (let k = has.1 in omega arith));
    } where
      Acts : ProcessCalls ℕ ℕ → Type 0
      Acts c = acts_by c.process (run_history object n events) ≡ sequential_acts c.process 0 c.calls

    pub split_leads : Leads object row w s [] w (after_split s id v)
    split_leads = record { shown = split_kept; run = λ n events run. no_more object n events w views' (split_run n events run) }

  pub splits : (n : ℕ) → Splits (ShowsRun object n row) id v (others v) (first_alone v)
  splits n s shown at = led n shown.1 shown.3 (SplitsNext id v at some_left Ends, refl, refl) (split_leads shown.0 s shown.2 at)

-- A run with one more event, and what it tells of each process.
use Rattle.uni_words.proofs.Vocabulary.{Act, AreAccepted-snoc, Call, Contains, EndNoEra, EndsNoEra, Event, HasSeen, Invoke, Invoked, IsAccepted, IsAmong, IsLocal, IsShown, IsSome, Known, Leads, LeadsTo, Linearize, List, Memory, Name, None, Of, Option, Pending, ProcessCalls, Reshape, Respond, Seen, Sequential, ShowsRun, Some, State, Step, Trim, View, WorldOf, [], acts_by, acts_in_view, acts_of, ap, append-nil, append_assoc, arith, at_set, drop, get_elem?, history_of-snoc, inl, inr, inv_of, invoked_at, length, log, log_of_run, map, number_cases, opened, option_map_or, pending_acts, pending_count, refl, response_after, responses_of, run_history, sequential_acts, set, some, subst, suc, sym, world_after, world_after_all, world_after_all-snoc, world_after_call, world_after_step, ℕ, ⊎_elim, ◌++◌, ◌+◌, ◌∙◌, ◌∷◌, ◌≡◌, ◌≢◌, ◌≤◌}
use Rattle.uni_words.proofs.Ran.{GoesTo, runs_on}
use Rattle.uni_words.specs.Ran.{HasRun}
use Rattle.uni_model.specs.History.{calls_of}
use Rattle.uni_words.proofs.Happens.{taken_apart}
use Rattle.uni_words.proofs.Views.{Holds-kept, Holds-later, Holds-set}

-- what a process takes in two histories, one after the other
pub acts_by-append : (p : ℕ) (xs ys : List (Act ℕ ℕ)) → acts_by p (xs ++ ys) ≡ acts_by p xs ++ acts_by p ys
acts_by-append p [] ys = refl
acts_by-append p (Linearize c ∷ xs) ys = acts_by-append p xs ys
acts_by-append p (Invoke q k i ∷ xs) ys = elim (number_cases q p) [
  | inl same ↦ rw same.1 (ap (λ l. Invoke q k i ∷ l) (acts_by-append p xs ys))
  | inr other ↦ rw other.1 (acts_by-append p xs ys)
]
acts_by-append p (Respond q k r ∷ xs) ys = elim (number_cases q p) [
  | inl same ↦ rw same.1 (ap (λ l. Respond q k r ∷ l) (acts_by-append p xs ys))
  | inr other ↦ rw other.1 (acts_by-append p xs ys)
]

-- what takes effect is nobody's act
acts_by-linearized : (p : ℕ) (cs : List (Invoked ℕ)) (ys : List (Act ℕ ℕ)) → acts_by p (map (λ c. Linearize c) cs ++ ys) ≡ acts_by p ys
acts_by-linearized p [] ys = refl
acts_by-linearized p (c ∷ cs) ys = acts_by-linearized p cs ys

sequential_acts-append : (p k : ℕ) (xs : List (ℕ × ℕ)) (c : ℕ × ℕ) → sequential_acts p k (xs ++ c ∷ []) ≡ sequential_acts p k xs ++ Invoke p (length xs + k) c.0 ∷ Respond p (length xs + k) c.1 ∷ []
sequential_acts-append p k [] c = (let e : k ≡ 0 + k = omega arith in ap (λ j. Invoke p j c.0 ∷ Respond p j c.1 ∷ []) e)
sequential_acts-append p k (x ∷ xs) c =
    let e : length xs + (k + 1) ≡ suc (length xs) + k = omega arith in
    ap (λ l. Invoke p k x.0 ∷ Respond p k x.1 ∷ l) (sequential_acts-append p (k + 1) xs c
    ∙ ap (λ j. sequential_acts p (k + 1) xs ++ Invoke p j c.0 ∷ Respond p j c.1 ∷ []) e)

module _ (object : Sequential ℕ ℕ ℕ) where
  one_era_more : (es : List (Event ℕ)) (e : Event ℕ) → EndNoEra es → EndsNoEra e → EndNoEra (es ++ e ∷ [])
  one_era_more [] e ok more = (more, tt)
  one_era_more (x ∷ xs) e ok more = (ok.0, one_era_more xs e ok.1 more)

  -- in one era the joined log is the log
  pub joined_is_log : (w : WorldOf ℕ ℕ ℕ) (es : List (Event ℕ)) → EndNoEra es → log_of_run object w es ≡ log (world_after_all object w es)
  joined_is_log w [] one = refl
  joined_is_log w (Call p i ∷ es) one = joined_is_log (world_after object w (Call p i)) es one.1
  joined_is_log w (Step p ∷ es) one = joined_is_log (world_after object w (Step p)) es one.1
  joined_is_log w (Trim ∷ es) one = absurd one.0
  joined_is_log w (Reshape n ∷ es) one = absurd one.0

  -- the acts of a step: a response, if its call ends
  step_acts : (w : WorldOf ℕ ℕ ℕ) (p : ℕ) (c : Pending) → w.call p ≡ Some c → (q : ℕ)
      → acts_by q (acts_of object w (Step p)) ≡ acts_by q (responses_of w.memory p c.mine (response_after c.mine c.stage w.memory))
  step_acts w p c pending q =
      acts_by-linearized q (drop (length (calls_of w)) (calls_of (world_after object w (Step p)))) (option_map_or (λ (call : Pending). responses_of w.memory p call.mine (response_after call.mine call.stage w.memory)) (w.call p) [])
      ∙ ap (λ o. acts_by q (option_map_or (λ (call : Pending). responses_of w.memory p call.mine (response_after call.mine call.stage w.memory)) o [])) pending

  response_elsewhere : (m : Memory ℕ ℕ ℕ) (p q : ℕ) (mine : Name) → q ≢ p → (o : Option ℕ) → acts_by {I = ℕ} q (responses_of m p mine o) ≡ []
  response_elsewhere m p q mine apart None = refl
  response_elsewhere m p q mine apart (Some r) = by_call (invoked_at m mine) where
    by_call : (o : Option (Invoked ℕ)) → acts_by {I = ℕ} q (option_map_or (λ (c : Invoked ℕ). Respond p c.nth r ∷ []) o []) ≡ []
    by_call None = refl
    by_call (Some c) = elim (number_cases p q) [ inl same ↦ absurd (apart (sym same.0)) | inr other ↦ rw other.1 refl ]

  response_here : (m : Memory ℕ ℕ ℕ) (p k inv r : ℕ) → inv_of m (Of p k) ≡ Some inv → acts_by p (responses_of m p (Of p k) (Some r)) ≡ Respond p k r ∷ []
  response_here m p k inv r asked = rw asked (elim (number_cases p p) [ inl same ↦ rw same.1 refl | inr other ↦ absurd (other.0 refl) ])

-- what was seen stays so
module _ (object : Sequential ℕ ℕ ℕ) (n : ℕ) (events more : List (Event ℕ)) where
  pub HasSeen-more : (s : Seen) → HasSeen object n events s → HasSeen object n (events ++ more) s
  HasSeen-more s h = record {
    before = h.before;
    after = h.after ++ more;
    joins = ap (λ l. l ++ more) h.joins ∙ append_assoc h.before h.after more;
    earlier = h.earlier;
    made = h.made;
  }

-- a run with no event more is the same
pub no_more : (object : Sequential ℕ ℕ ℕ) (n : ℕ) (events : List (Event ℕ)) (w : WorldOf ℕ ℕ ℕ) (views : List View) → LeadsTo object n events w views → LeadsTo object n (events ++ []) w views
no_more object n events w views run = subst (λ es. LeadsTo object n es w views) (sym (append-nil events)) run

-- where a step leads on, the rule holds after it
pub led : {object : Sequential ℕ ℕ ℕ} {row : ℕ} {w : WorldOf ℕ ℕ ℕ} {s : State ℕ View} {more : List (Event ℕ)} {w' : WorldOf ℕ ℕ ℕ} {s' : State ℕ View} → (n : ℕ) → w'.n ≡ n
    → ((made : List (Event ℕ)) × LeadsTo object n made w s.views × HasRun object n row s made) → GoesTo object n row s more s' → Leads object row w s more w' s' → ShowsRun object n row s'
led {object = object} {row = row} {s = s} {more = more} {w' = w'} {s' = s'} n count run on leads =
    (w', count, leads.shown, (run.0 ++ more, leads.run n run.0 run.1, runs_on object n row s s' run.0 more run.2 on))

-- a process that has no call pending has made its calls, and no others
pub idle_acts : (object : Sequential ℕ ℕ ℕ) (n : ℕ) (events : List (Event ℕ)) (w : WorldOf ℕ ℕ ℕ) (views : List View) → LeadsTo object n events w views → (id : ℕ) (v : View) → get_elem? views id ≡ some v → 1 ≤ v.known.count → v.known.its.call ≡ None
    → acts_by v.known.first (run_history object n events) ≡ sequential_acts v.known.first 0 v.known.its.own
idle_acts object n events w views run id v at some_left idle =
    let p = v.known.first in
    run.acts id v at p (omega arith, omega (arith, some_left))
    ∙ (ap (λ o. sequential_acts p 0 v.known.its.own ++ pending_acts p (length v.known.its.own) v.known.its.inv o) idle ∙ append-nil (sequential_acts p 0 v.known.its.own))

module _ (object : Sequential ℕ ℕ ℕ) (n row : ℕ) (w : WorldOf ℕ ℕ ℕ) (s : State ℕ View) (is : IsShown object row w s)
    (events : List (Event ℕ)) (run : LeadsTo object n events w s.views)
    (id : ℕ) (v : Known) (at : get_elem? s.views id ≡ some (record { known = v })) (single : v.count ≡ 1) where
  own_seat : (is.seats.owner v.first ≡ id) × IsLocal w v.first v.its
  own_seat = (is.seats.each id (record { known = v }) at).each v.first (omega arith) (let one = single in omega arith)

  local : IsLocal w v.first v.its
  local = own_seat.1

  -- the acts of each process afterwards, where those of the others are as before
  acts_later : (acts : List (Act ℕ ℕ)) (v' : Known) → v'.first ≡ v.first → v'.count ≡ 1
      → ((q : ℕ) → q ≢ v.first → acts_by q acts ≡ acts_by q (run_history object n events)) → acts_by v.first acts ≡ acts_in_view v.first v'
      → (j : ℕ) (u : View) → get_elem? (set s.views id (record { known = v' })) j ≡ some u → (q : ℕ) → IsAmong q u.known → acts_by q acts ≡ acts_in_view q u.known
  acts_later acts v' first_is count_is others own j u e q among = ⊎_elim
      (λ (h : (j ≡ id) × (record { known = v' } ≡ u)).
      let here : IsAmong q v' = subst (λ (z : View). IsAmong q z.known) (sym h.1) among in
      let same : q ≡ v.first = (let a = first_is in let b = count_is in let c = here.0 in let d = here.1 in omega arith) in
      subst (λ (z : View). acts_by q acts ≡ acts_in_view q z.known) h.1
      (subst (λ k. acts_by k acts ≡ acts_in_view k v') (sym same) own))
      (λ (h : (j ≢ id) × (get_elem? s.views j ≡ some u)).
      let its = (is.seats.each j u h.1).each q among.0 among.1 in
      others q (λ same. h.0 (sym its.0 ∙ (ap is.seats.owner same ∙ own_seat.0))) ∙ run.acts j u h.1 q among)
      (at_set s.views id j (record { known = v' }) u e)

  -- nor do the processes that were taken in act
  takes_later : (acts : List (Act ℕ ℕ)) (v' : Known) → v'.taken ≡ v.taken
      → ((q : ℕ) → q ≢ v.first → acts_by q acts ≡ acts_by q (run_history object n events))
      → (j : ℕ) (u : View) → get_elem? (set s.views id (record { known = v' })) j ≡ some u → (c : ProcessCalls ℕ ℕ) → Contains u.known.taken c → acts_by c.process acts ≡ sequential_acts c.process 0 c.calls
  takes_later acts v' taken_is others j u e c has = ⊎_elim
      (λ (h : (j ≡ id) × (record { known = v' } ≡ u)).
      let had : Contains v.taken c = subst (λ l. Contains l c) taken_is (subst (λ (z : View). Contains z.known.taken c) (sym h.1) has) in
      others c.process (taken_apart object row w s is id (record { known = v }) at (let one = single in omega arith) id (record { known = v }) at c had) ∙ run.taken id (record { known = v }) at c had)
      (λ (h : (j ≢ id) × (get_elem? s.views j ≡ some u)).
      others c.process (taken_apart object row w s is id (record { known = v }) at (let one = single in omega arith) j u h.1 c has) ∙ run.taken j u h.1 c has)
      (at_set s.views id j (record { known = v' }) u e)

  -- no event: the seat knows of the same acts
  pub run_stays : (v' : Known) → v'.first ≡ v.first → v'.count ≡ 1 → v'.taken ≡ v.taken → ((t : Seen) → Contains v'.seen t → HasSeen object n events t) → v'.its.own ≡ v.its.own → v'.its.inv ≡ v.its.inv → v'.its.call ≡ v.its.call
      → LeadsTo object n events w (set s.views id (record { known = v' }))
  run_stays v' first_is count_is taken_is sees own inv call = record {
    accepted = run.accepted;
    one_era = run.one_era;
    reached = run.reached;
    acts = acts_later (run_history object n events) v' first_is count_is (λ q apart. refl)
        (run.acts id (record { known = v }) at v.first (omega arith, (let one = single in omega arith))
        ∙ ap (λ l. sequential_acts v.first 0 l ++ pending_acts v.first (length l) v.its.inv v.its.call) (sym own)
        ∙ ap (λ i. sequential_acts v.first 0 v'.its.own ++ pending_acts v.first (length v'.its.own) i v.its.call) (sym inv)
        ∙ ap (λ o. sequential_acts v.first 0 v'.its.own ++ pending_acts v.first (length v'.its.own) v'.its.inv o) (sym call));
    taken = takes_later (run_history object n events) v' taken_is (λ q apart. refl);
    seen = Holds-set (λ (u : View). u.known.seen) (HasSeen object n events) s.views id (record { known = v' }) run.seen sees;
  }

  -- one more event, by the process of the seat
  run_more : (e : Event ℕ) → IsAccepted w e → EndsNoEra e → (w' : WorldOf ℕ ℕ ℕ) → world_after object w e ≡ w' → (v' : Known) → v'.first ≡ v.first → v'.count ≡ 1 → v'.taken ≡ v.taken → v'.seen ≡ v.seen
      → ((q : ℕ) → q ≢ v.first → acts_by q (acts_of object w e) ≡ []) → acts_in_view v.first v ++ acts_by v.first (acts_of object w e) ≡ acts_in_view v.first v'
      → LeadsTo object n (events ++ e ∷ []) w' (set s.views id (record { known = v' }))
  run_more e ok goes w' later v' first_is count_is taken_is seen_is others own = record {
    accepted = AreAccepted-snoc object (opened object n) events e run.accepted (subst (λ u. IsAccepted u e) (sym run.reached) ok);
    one_era = one_era_more object events e run.one_era goes;
    reached = world_after_all-snoc object (opened object n) events e ∙ (ap (λ u. world_after object u e) run.reached ∙ later);
    acts = acts_later (run_history object n (events ++ e ∷ [])) v' first_is count_is same
        (more v.first ∙ (ap (λ l. l ++ acts_by v.first (acts_of object w e)) (run.acts id (record { known = v }) at v.first (omega arith, (let one = single in omega arith))) ∙ own));
    taken = takes_later (run_history object n (events ++ e ∷ [])) v' taken_is same;
    seen = Holds-kept (λ (u : View). u.known.seen) (HasSeen object n (events ++ e ∷ [])) s.views id (record { known = v }) (record { known = v' }) at seen_is
        (Holds-later (λ (u : View). u.known.seen) (HasSeen object n events) (HasSeen object n (events ++ e ∷ [])) s.views (HasSeen-more object n events (e ∷ [])) run.seen);
  } where
    more : (q : ℕ) → acts_by q (run_history object n (events ++ e ∷ [])) ≡ acts_by q (run_history object n events) ++ acts_by q (acts_of object w e)
    more q = ap (acts_by q) (history_of-snoc object (opened object n) events e)
        ∙ (ap (λ u. acts_by q (run_history object n events ++ acts_of object u e)) run.reached ∙ acts_by-append q (run_history object n events) (acts_of object w e))

    same : (q : ℕ) → q ≢ v.first → acts_by q (run_history object n (events ++ e ∷ [])) ≡ acts_by q (run_history object n events)
    same q apart = more q ∙ (ap (λ l. acts_by q (run_history object n events) ++ l) (others q apart) ∙ append-nil (acts_by q (run_history object n events)))

  -- a call is begun
  pub run_begins : (idle : v.its.call ≡ None) (inv : ℕ) (c : Pending) (v' : Known) → v'.first ≡ v.first → v'.count ≡ 1 → v'.taken ≡ v.taken → v'.seen ≡ v.seen → v'.its.own ≡ v.its.own → v'.its.inv ≡ inv → v'.its.call ≡ Some c
      → LeadsTo object n (events ++ Call v.first inv ∷ []) (world_after_call w v.first inv) (set s.views id (record { known = v' }))
  run_begins idle inv c v' first_is count_is taken_is seen_is own asked call =
      let nth : w.begun v.first ≡ length v.its.own = (let b = local.begun in let k : v.its.begun ≡ length v.its.own + 0 = subst (λ o. v.its.begun ≡ length v.its.own + pending_count o) idle local.counted in omega arith) in
      run_more (Call v.first inv) (local.inside, local.call ∙ idle) tt (world_after_call w v.first inv) refl v' first_is count_is taken_is seen_is
      (λ q apart. elim (number_cases v.first q) [ inl same ↦ absurd (apart (sym same.0)) | inr other ↦ rw other.1 refl ])
      (ap (λ o. (sequential_acts v.first 0 v.its.own ++ pending_acts v.first (length v.its.own) v.its.inv o) ++ acts_by v.first (Invoke v.first (w.begun v.first) inv ∷ [])) idle
      ∙ (ap (λ l. l ++ acts_by v.first (Invoke v.first (w.begun v.first) inv ∷ [])) (append-nil (sequential_acts v.first 0 v.its.own))
      ∙ (ap (λ l. sequential_acts v.first 0 v.its.own ++ l) (elim (number_cases v.first v.first) [ inl same ↦ rw same.1 (ap (λ k. Invoke v.first k inv ∷ []) nth) | inr other ↦ absurd (other.0 refl) ])
      ∙ (ap (λ l. sequential_acts v.first 0 l ++ Invoke v.first (length l) inv ∷ []) (sym own)
      ∙ (ap (λ i. sequential_acts v.first 0 v'.its.own ++ Invoke v.first (length v'.its.own) i ∷ []) (sym asked)
      ∙ ap (λ o. sequential_acts v.first 0 v'.its.own ++ pending_acts v.first (length v'.its.own) v'.its.inv o) (sym call))))))

  module _ (c : Pending) (pending : v.its.call ≡ Some c) where
    own_call : w.call v.first ≡ Some c
    own_call = local.call ∙ pending

    -- a step after which the call goes on
    pub run_moves : (response_after c.mine c.stage w.memory) ≡ None → (d : Pending) (v' : Known) → v'.first ≡ v.first → v'.count ≡ 1 → v'.taken ≡ v.taken → v'.seen ≡ v.seen → v'.its.own ≡ v.its.own → v'.its.inv ≡ v.its.inv → v'.its.call ≡ Some d
        → LeadsTo object n (events ++ Step v.first ∷ []) (world_after_step object w v.first (Some c)) (set s.views id (record { known = v' }))
    run_moves silent d v' first_is count_is taken_is seen_is own asked call =
        run_more (Step v.first) (subst IsSome (sym own_call) refl) tt (world_after_step object w v.first (Some c)) (ap (world_after_step object w v.first) own_call) v' first_is count_is taken_is seen_is
        (λ q apart. step_acts object w v.first c own_call q ∙ response_elsewhere object w.memory v.first q c.mine apart (response_after c.mine c.stage w.memory))
        (ap (λ l. acts_in_view v.first v ++ l) (step_acts object w v.first c own_call v.first ∙ ap (λ o. acts_by v.first (responses_of w.memory v.first c.mine o)) silent)
        ∙ (append-nil (acts_in_view v.first v)
        ∙ (ap (λ o. sequential_acts v.first 0 v.its.own ++ pending_acts v.first (length v.its.own) v.its.inv o) pending
        ∙ (ap (λ l. sequential_acts v.first 0 l ++ Invoke v.first (length l) v.its.inv ∷ []) (sym own)
        ∙ (ap (λ i. sequential_acts v.first 0 v'.its.own ++ Invoke v.first (length v'.its.own) i ∷ []) (sym asked)
        ∙ ap (λ o. sequential_acts v.first 0 v'.its.own ++ pending_acts v.first (length v'.its.own) v'.its.inv o) (sym call))))))

    -- the last step of a call
    pub run_ends : (reply : ℕ) → (response_after c.mine c.stage w.memory) ≡ Some reply → c.mine ≡ Of v.first (length v.its.own) → inv_of w.memory c.mine ≡ Some v.its.inv
        → (v' : Known) → v'.first ≡ v.first → v'.count ≡ 1 → v'.taken ≡ v.taken → v'.seen ≡ v.seen → v'.its.own ≡ v.its.own ++ (v.its.inv, reply) ∷ [] → v'.its.call ≡ None
        → LeadsTo object n (events ++ Step v.first ∷ []) (world_after_step object w v.first (Some c)) (set s.views id (record { known = v' }))
    run_ends reply answer mine asked v' first_is count_is taken_is seen_is own call =
        let k : ℕ = length v.its.own in
        let k_is : k ≡ length v.its.own + 0 = omega arith in
        run_more (Step v.first) (subst IsSome (sym own_call) refl) tt (world_after_step object w v.first (Some c)) (ap (world_after_step object w v.first) own_call) v' first_is count_is taken_is seen_is
        (λ q apart. step_acts object w v.first c own_call q ∙ response_elsewhere object w.memory v.first q c.mine apart (response_after c.mine c.stage w.memory))
        (ap (λ l. acts_in_view v.first v ++ l) (step_acts object w v.first c own_call v.first
        ∙ (ap (λ o. acts_by v.first (responses_of w.memory v.first c.mine o)) answer
        ∙ (ap (λ x. acts_by v.first (responses_of w.memory v.first x (Some reply))) mine
        ∙ response_here object w.memory v.first k v.its.inv reply (subst (λ x. inv_of w.memory x ≡ Some v.its.inv) mine asked))))
        ∙ (ap (λ o. (sequential_acts v.first 0 v.its.own ++ pending_acts v.first k v.its.inv o) ++ Respond v.first k reply ∷ []) pending
        ∙ (append_assoc (sequential_acts v.first 0 v.its.own) (Invoke v.first k v.its.inv ∷ []) (Respond v.first k reply ∷ [])
        ∙ (ap (λ j. sequential_acts v.first 0 v.its.own ++ Invoke v.first j v.its.inv ∷ Respond v.first j reply ∷ []) k_is
        ∙ (sym (sequential_acts-append v.first 0 v.its.own (v.its.inv, reply))
        ∙ (ap (sequential_acts v.first 0) (sym own)
        ∙ (sym (append-nil (sequential_acts v.first 0 v'.its.own))
        ∙ ap (λ o. sequential_acts v.first 0 v'.its.own ++ pending_acts v.first (length v'.its.own) v'.its.inv o) (sym call))))))))

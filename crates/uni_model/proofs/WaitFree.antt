-- The own steps of a call are the steps of its process since its begin, so it has returned in time.
use Rattle.uni_model.proofs.Vocabulary.{AcceptsAll, Act, AreAccepted, Atomic, Call, Contains, Contains-append_left, Contains-append_right, Contains-push, Event, Invoke, Invoked, IsAccepted, IsBounded, IsReached, IsSome, IsWithinBound, Linearize, List, None, Option, Pending, Reshape, Respond, Sequential, Some, Step, Trim, WorldOf, [], anchor_memory, ap, arith, at_start, cond, false, history_of, inl, inr, last_cell, new_of, observed, observed_in, open_at, opened_world, option_map_or, refl, seq_of, set_at, subst, suc, sum_by-cons, sym, true, world_after, world_after_all, world_after_era, world_after_step, zero, ℕ, ◌*◌, ◌++◌, ◌+◌, ◌<◌, ◌∙◌, ◌∷◌, ◌≡◌, ◌≢◌, ◌≤◌}
use Rattle.uni_model.specs.WaitFree.{is_step_of, steps_among, AreNoCallsOf, NeverBlocks, IsWaitFree, CallIsWaitFree, EndsAlone, CallEndsAlone}
use Rattle.uni_model.proofs.Written.{number_cases, set_at-cases}
use Rattle.uni_model.proofs.LawProofs.{set_at_elsewhere, IsBounded-reached}
use Rattle.uni_model.proofs.Runs.{world_after_all-append, AreAccepted-append, history_of-append}
use Rattle.uni_model.proofs.Linearized.{IsLinearizable-holds}
use Rattle.uni_model.proofs.Linearizable.{observed-history_of}

pub NeverBlocks-holds : {S I R : Type 0} (w : WorldOf S I R) (p : ℕ) → NeverBlocks w p
NeverBlocks-holds w p call is = rw is refl

abbrev counted : {I : Type 0} → ℕ → Event I → ℕ
counted p e = cond (is_step_of p e) 1 0

steps_among-cons : {I : Type 0} (p : ℕ) (e : Event I) (es : List (Event I)) → steps_among p (e ∷ es) ≡ counted p e + steps_among p es
steps_among-cons p e es = sum_by-cons (counted p) e es

-- an event by which p begins no call
abbrev IsNotCallOf : {I : Type 0} → ℕ → Event I → Type 0
IsNotCallOf p (Call q i) = p ≢ q
IsNotCallOf p _ = Unit {0}

none_first : {I : Type 0} (p : ℕ) (e : Event I) (es : List (Event I)) → AreNoCallsOf p (e ∷ es) → IsNotCallOf p e
none_first p (Call q i) es none = λ same. none i (subst (λ r. Contains (Call q i ∷ es) (Call r i)) (sym same) (Contains-append_left (Call q i ∷ []) es (Call q i) (Contains-push [] (Call q i))))
none_first p (Step q) es none = tt
none_first p Trim es none = tt
none_first p (Reshape n) es none = tt

none_later : {I : Type 0} (p : ℕ) (e : Event I) (es : List (Event I)) → AreNoCallsOf p (e ∷ es) → AreNoCallsOf p es
none_later p e es none = λ i there. none i (Contains-append_right (e ∷ []) es (Call p i) there)

-- the latest call of p is the same one, so many steps later
record IsSameCall {S I R : Type 0} (w v : WorldOf S I R) (p more : ℕ) : Type 0 where
  begun : v.begun p ≡ w.begun p
  among : v.among p ≡ w.among p
  steps : v.steps p ≡ w.steps p + more

module _ {S I R : Type 0} (object : Sequential S I R) where
  same_call_era : (w : WorldOf S I R) (n p : ℕ) → IsSameCall w (world_after_era w n) p 0
  same_call_era w n p = by_new (new_of w.memory (last_cell w)) where
    by_new : (o : Option (S × Option R)) → IsSameCall w (option_map_or (λ new. record w { n = n; first = w.begun; memory = anchor_memory new.0 (seq_of w.memory (last_cell w)) }) o w) p 0
    by_new None = record { begun = refl; among = refl; steps = omega arith }
    by_new (Some new) = record { begun = refl; among = refl; steps = omega arith }

  same_call_after : (w : WorldOf S I R) (e : Event I) (p : ℕ) → IsAccepted w e → IsNotCallOf p e → IsSameCall w (world_after object w e) p (counted p e)
  same_call_after w (Call q i) p ok other = record {
    begun = set_at_elsewhere w.begun q _ p other;
    among = set_at_elsewhere w.among q _ p other;
    steps = let same : set_at w.steps q 0 p ≡ w.steps p = set_at_elsewhere w.steps q 0 p other in omega arith;
  }
  same_call_after w (Step q) p ok other = by_call (w.call q) ok where
    by_call : (o : Option Pending) → IsSome o → IsSameCall w (world_after_step object w q o) p (counted {I = I} p (Step q))
    by_call None some = absurd (let e : false ≡ true = some in cc)
    by_call (Some c) some = record {
      begun = refl;
      among = refl;
      steps = elim (number_cases p q) [
        | inl same ↦ rw same.1 (ap (λ r. w.steps r + 1) (sym same.0))
        | inr apart ↦ rw apart.1 (let goal : w.steps p ≡ w.steps p + 0 = omega arith in goal)
      ];
    }
  same_call_after w Trim p ok other = same_call_era w w.n p
  same_call_after w (Reshape n) p ok other = same_call_era w n p

  same_call_along : (w : WorldOf S I R) (es : List (Event I)) (p : ℕ) → AreAccepted object w es → AreNoCallsOf p es → IsSameCall w (world_after_all object w es) p (steps_among p es)
  same_call_along w [] p ok others = record { begun = refl; among = refl; steps = let none : steps_among {I = I} p [] ≡ 0 = refl in omega arith }
  same_call_along w (e ∷ es) p ok others =
      let first = same_call_after w e p ok.0 (none_first p e es others) in
      let rest = same_call_along (world_after object w e) es p ok.1 (none_later p e es others) in record {
        begun = rest.begun ∙ first.begun;
        among = rest.among ∙ first.among;
        steps = let sum = steps_among-cons p e es in let one = first.steps in let more = rest.steps in omega arith;
      }

  -- the atomic object between acts and further acts
  AcceptsAll-split : (a b : Atomic S I) (xs ys : List (Act I R)) → AcceptsAll object a (xs ++ ys) b → (c : Atomic S I) × AcceptsAll object a xs c × AcceptsAll object c ys b
  AcceptsAll-split a b [] ys h = (a, refl, h)
  AcceptsAll-split a b (x ∷ xs) ys h = let rest = AcceptsAll-split h.0 b xs ys h.2 in (rest.0, (h.0, h.1, rest.1), rest.2)

  -- an open call that is open no more has responded
  responded : (a b : Atomic S I) (acts : List (Act I R)) (p : ℕ) (o : Invoked I) → a.open_call p ≡ Some o → b.open_call p ≡ None → AcceptsAll object a acts b
      → (r : R) × Contains (observed acts) (Respond p o.nth r)
  responded a b [] p o is over h = absurd (let none : Some o ≡ None = sym is ∙ ap (λ (x : Atomic S I). x.open_call p) (sym h) ∙ over in cc)
  responded a b (Invoke q k i ∷ acts) p o is over h =
      let apart : p ≢ q = λ same. (let none : Some o ≡ None = sym is ∙ ap a.open_call same ∙ h.1.0 in cc) in
      let still : h.0.open_call p ≡ Some o = ap (λ (x : Atomic S I). x.open_call p) h.1.2 ∙ set_at_elsewhere a.open_call q _ p apart ∙ is in
      let rest = responded h.0 b acts p o still over h.2 in
      (rest.0, Contains-append_right (Invoke q k i ∷ []) (observed acts) (Respond p o.nth rest.0) rest.1)
  responded a b (Linearize c ∷ acts) p o is over h = responded h.0 b acts p o (ap (λ (x : Atomic S I). x.open_call p) h.1.2 ∙ is) over h.2
  responded a b (Respond q k r ∷ acts) p o is over h = elim (number_cases p q) [
    | inl same ↦
        let its_open : Some o ≡ Some (record { process = q; nth = k; inv = h.1.0.0 }) = sym is ∙ ap a.open_call same.0 ∙ h.1.0.2 in
        let its : o ≡ record { process = q; nth = k; inv = h.1.0.0 } = cc in
        let nth : o.nth ≡ k = ap (λ (x : Invoked I). x.nth) its in
        let first = Contains-append_left (Respond q k r ∷ []) (observed acts) (Respond q k r) (Contains-push [] (Respond q k r)) in
        (r, subst (λ m. Contains (Respond q k r ∷ observed acts) (Respond m o.nth r)) (sym same.0) (subst (λ m. Contains (Respond q k r ∷ observed acts) (Respond q m r)) (sym nth) first))
    | inr apart ↦
        let still : h.0.open_call p ≡ Some o = ap (λ (x : Atomic S I). x.open_call p) h.1.1 ∙ set_at_elsewhere a.open_call q _ p apart.0 ∙ is in
        let rest = responded h.0 b acts p o still over h.2 in
        (rest.0, Contains-append_right (Respond q k r ∷ []) (observed acts) (Respond p o.nth rest.0) rest.1)
  ]

  -- the own steps of a call that was begun, within the bound
  steps_within : (n : ℕ) (o : Option Pending) (begun among steps turns : ℕ) → IsWithinBound n o begun among steps turns → 1 ≤ begun
      → (steps ≤ 10 * among + 12) × (steps ≡ 10 * among + 12 → o ≡ None)
  steps_within n None begun among steps turns h called =
      let few : turns ≤ among + 1 = h.0 in let all : steps ≡ 2 * among + 4 + 8 * turns = h.1 called in
      ((omega arith), λ e. refl)
  steps_within n (Some c) begun among steps turns h called =
      let same : among ≡ n = h.0 in let less : steps < 10 * n + 12 = h.2 in
      ((omega arith), λ e. absurd (omega arith))

  set_at_here : {A : Type 0} (f : ℕ → A) (p : ℕ) (v : A) → set_at f p v p ≡ v
  set_at_here f p v = elim (set_at-cases f p v p) [ inl h ↦ h.1 | inr h ↦ absurd (h.0 refl) ]

  -- the call begins, after what the atomic object took before it, and responds
  answered_later : (n : ℕ) (start : S) (number : ℕ) (es : List (Event I)) (p : ℕ) (i : I) (fs : List (Event I)) → 1 ≤ number
      → AreAccepted object (opened_world n start number) (es ++ Call p i ∷ fs)
      → (world_after_all object (opened_world n start number) (es ++ Call p i ∷ fs)).call p ≡ None
      → (r : R) × Contains (observed_in object (world_after_all object (opened_world n start number) es) (Call p i ∷ fs)) (Respond p ((world_after_all object (opened_world n start number) es).begun p) r)
  answered_later n start number es p i fs positive ok none =
      let opened = opened_world n start number in
      let w = world_after_all object opened es in
      let last = world_after_all object opened (es ++ Call p i ∷ fs) in
      let shown = IsLinearizable-holds object n start number (es ++ Call p i ∷ fs) positive ok in
      let before = AcceptsAll-split (at_start start) shown.0 (history_of object opened es) (history_of object w (Call p i ∷ fs))
      (subst (λ acts. AcceptsAll object (at_start start) acts shown.0) (history_of-append object opened es (Call p i ∷ fs)) shown.2) in
      let later = before.2 in
      let is : later.0.open_call p ≡ Some (record { process = p; nth = w.begun p; inv = i })
      = ap (λ (x : Atomic S I). x.open_call p) later.1.2 ∙ set_at_here before.0.open_call p (Some (record { process = p; nth = w.begun p; inv = i })) in
      let over : shown.0.open_call p ≡ None = sym (shown.1.open_call p) ∙ ap (open_at last.memory) none in
      let found = responded later.0 shown.0 (history_of object (world_after object w (Call p i)) fs) p (record { process = p; nth = w.begun p; inv = i }) is over later.2 in
      let there = Contains-append_right (Invoke p (w.begun p) i ∷ []) (observed (history_of object (world_after object w (Call p i)) fs)) (Respond p (w.begun p) found.0) found.1 in
      (found.0, subst (λ acts. Contains acts (Respond p (w.begun p) found.0)) (observed-history_of object w (Call p i ∷ fs)) there)

  -- the world before the call, with the opening that it is reached from
  from_opening : (n : ℕ) (start : S) (number : ℕ) (es : List (Event I)) (p : ℕ) (i : I) (fs : List (Event I)) → 1 ≤ number → AreAccepted object (opened_world n start number) es
      → AreAccepted object (world_after_all object (opened_world n start number) es) (Call p i ∷ fs) → AreNoCallsOf p fs
      → IsWaitFree object (world_after_all object (opened_world n start number) es) p i fs
  from_opening n start number es p i fs positive ok accepted others =
      let opened = opened_world n start number in
      let u = world_after_all object opened es in
      let v = world_after object u (Call p i) in
      let last = world_after_all object opened (es ++ Call p i ∷ fs) in
      let all = AreAccepted-append object opened es (Call p i ∷ fs) ok accepted in
      let joined : last ≡ world_after_all object v fs = world_after_all-append object opened es (Call p i ∷ fs) in
      let same : IsSameCall v last p (steps_among p fs) = subst (λ x. IsSameCall v x p (steps_among p fs)) (sym joined) (same_call_along v fs p accepted.1 others) in
      let within = IsBounded-reached object last (record { n = n; start = start; number = number; events = es ++ Call p i ∷ fs; positive = positive; accepted = all; reached = refl }) p in
      let called : v.begun p ≡ u.begun p + 1 = set_at_here u.begun p (u.begun p + 1) in
      let processes : v.among p ≡ u.n = set_at_here u.among p u.n in
      let none : v.steps p ≡ 0 = set_at_here u.steps p 0 in
      let its_begun = same.begun in
      let its_among : last.among p ≡ u.n = same.among ∙ processes in
      let its_steps : last.steps p ≡ steps_among p fs = (let sum : last.steps p ≡ v.steps p + steps_among p fs = same.steps in omega arith) in
      let bound = steps_within last.n (last.call p) (last.begun p) (last.among p) (last.steps p) (last.turns p) within (omega arith) in
      let call : last.call p ≡ (world_after_all object v fs).call p = ap (λ (x : WorldOf S I R). x.call p) joined in
      record {
        few = subst (λ m. steps_among p fs ≤ 10 * m + 12) its_among (subst (λ k. k ≤ 10 * last.among p + 12) its_steps bound.0);
        returned = λ full. sym call ∙ bound.1 (let most : steps_among p fs ≡ 10 * u.n + 12 = full in omega arith);
        answered = λ is. answered_later n start number es p i fs positive all (call ∙ is);
      }

  pub CallIsWaitFree-holds : (w : WorldOf S I R) (p : ℕ) (i : I) (later : List (Event I)) → CallIsWaitFree object w p i later
  CallIsWaitFree-holds w p i later reached ok others =
      subst (λ u. AreAccepted object u (Call p i ∷ later) → IsWaitFree object u p i later) reached.reached
      (λ accepted. from_opening reached.n reached.start reached.number reached.events p i later reached.positive reached.accepted accepted others) ok

  -- a step of a pending call
  n_after : (w : WorldOf S I R) (p : ℕ) (o : Option Pending) → (world_after_step object w p o).n ≡ w.n
  n_after w p None = refl
  n_after w p (Some c) = refl

  counted_own : (p : ℕ) → counted {I = I} p (Step p) ≡ 1
  counted_own p = elim (number_cases p p) [ inl same ↦ rw same.1 refl | inr apart ↦ absurd (apart.0 refl) ]

  reached_after : (w : WorldOf S I R) (e : Event I) → IsReached object w → IsAccepted w e → IsReached object (world_after object w e)
  reached_after w e r ok = record {
    n = r.n;
    start = r.start;
    number = r.number;
    events = r.events ++ e ∷ [];
    positive = r.positive;
    accepted = AreAccepted-append object (opened_world r.n r.start r.number) r.events (e ∷ []) r.accepted (subst (λ u. IsAccepted u e) (sym r.reached) ok, tt);
    reached = world_after_all-append object (opened_world r.n r.start r.number) r.events (e ∷ []) ∙ ap (λ u. world_after object u e) r.reached;
  }

  -- the own steps of a pending call
  pending_within : (w : WorldOf S I R) (p : ℕ) (c : Pending) → w.call p ≡ Some c → IsBounded w → w.steps p < 10 * w.n + 12
  pending_within w p c is bounded = (subst (λ o. IsWithinBound w.n o (w.begun p) (w.among p) (w.steps p) (w.turns p)) is (bounded p)).2

  -- one further step before those that end the call
  one_more : (w : WorldOf S I R) (p : ℕ) → IsAccepted w (Step p) → (world_after object w (Step p)).n ≡ w.n → (world_after object w (Step p)).steps p ≡ w.steps p + 1
      → EndsAlone object (world_after object w (Step p)) p → EndsAlone object w p
  one_more w p ok same more rest = record {
    further = suc rest.further;
    accepted = (ok, rest.accepted);
    returned = rest.returned;
    few = let few : (world_after object w (Step p)).steps p + rest.further ≤ 10 * (world_after object w (Step p)).n + 12 = rest.few in omega arith;
  }

  ends_now : (w : WorldOf S I R) (p : ℕ) (c : Pending) → IsReached object w → w.call p ≡ Some c
      → ((d : Pending) → (world_after object w (Step p)).call p ≡ Some d → (world_after object w (Step p)).n ≡ w.n → (world_after object w (Step p)).steps p ≡ w.steps p + 1
      → EndsAlone object (world_after object w (Step p)) p)
      → EndsAlone object w p
  ends_now w p c reached is later = by_next ((world_after object w (Step p)).call p) refl where
    ok : IsAccepted w (Step p)
    ok = NeverBlocks-holds w p c is

    same : (world_after object w (Step p)).n ≡ w.n
    same = n_after w p (w.call p)

    more : (world_after object w (Step p)).steps p ≡ w.steps p + 1
    more = (same_call_after w (Step p) p ok tt).steps ∙ ap (λ k. w.steps p + k) (counted_own p)

    by_next : (o : Option Pending) → (world_after object w (Step p)).call p ≡ o → EndsAlone object w p
    by_next None over = one_more w p ok same more (record {
      further = 0;
      accepted = tt;
      returned = over;
      few =
          let less : w.steps p < 10 * w.n + 12 = pending_within w p c is (IsBounded-reached object w reached) in
          let count = more in
          let processes = same in
          omega arith;
    })
    by_next (Some d) next = one_more w p ok same more (later d next same more)

  ends_alone : (m : ℕ) (w : WorldOf S I R) (p : ℕ) (c : Pending) → IsReached object w → w.call p ≡ Some c → 10 * w.n + 12 ≤ w.steps p + m → EndsAlone object w p
  ends_alone zero w p c reached is all =
      absurd (let less : w.steps p < 10 * w.n + 12 = pending_within w p c is (IsBounded-reached object w reached) in omega arith)
  ends_alone (suc m) w p c reached is all =
      ends_now w p c reached is (λ d next same more. ends_alone m (world_after object w (Step p)) p d (reached_after w (Step p) reached (NeverBlocks-holds w p c is)) next (omega arith))

  pub CallEndsAlone-holds : (w : WorldOf S I R) (p : ℕ) → CallEndsAlone object w p
  CallEndsAlone-holds w p reached call is = ends_alone (10 * w.n + 12) w p call reached is (omega arith)

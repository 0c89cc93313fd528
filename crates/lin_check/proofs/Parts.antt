-- The history of a part is the subhistory of one of many objects, each of which is the whole object.
use Rattle.std.proofs.Common.{filter, option_map}
use Rattle.std.proofs.lemmas.List.{take-map}
use Rattle.std.proofs.lemmas.Option.{slice_get-map}
use Rattle.seq_object.specs.History.{response_at, state_after}
use Rattle.uni_model.specs.HerlihyWing.{AreInTurn, of_process}
use Rattle.uni_model.specs.Locality.{of_object, together}
use Rattle.uni_model.proofs.Project.{IsLocal-holds, project}
use Rattle.lin_check.specs.Parts.{IsInParts, IsPartByPart, events_of_part, part_of}
use Rattle.lin_check.proofs.Vocabulary.{Accepts, AcceptsAll, Act, Atomic, Bool, Call, Contains, Event, Invoke, Invoked, IsLinearizableHistory, Linearize, List, None, Option, Respond, Return, Sequential, Some, [], acts_of, ap, at_start, cond, false, inl, inr, invs, map, map-append, member, number_cases, numbered, observed, place_of_member, refl, set_at, set_at_elsewhere, set_at_here, slice_get, subst, sym, take, true, ℕ, ◌++◌, ◌+◌, ◌-◌, ◌==◌, ◌∙◌, ◌∷◌, ◌≡◌, ◌⊎◌}

module _ {S I R : Type 0} (object : Sequential S I R) (part : I → ℕ) where
  abbrev whole : Sequential (ℕ → S) (ℕ × I) (ℕ × R)
  whole = together (λ x. object)

  abbrev starts : ℕ → S
  starts x = object.initial

  abbrev named : I → ℕ × I
  named i = (part i, i)

  abbrev named_call : Invoked I → Invoked (ℕ × I)
  named_call c = record { process = c.process; nth = c.nth; inv = named c.inv }

  abbrev plain_call : Invoked (ℕ × I) → Invoked I
  plain_call c = record { process = c.process; nth = c.nth; inv = c.inv.1 }

  -- the same acts, with the part of each
  abbrev named_acts : (ℕ → ℕ) → List (Act I R) → List (Act (ℕ × I) (ℕ × R))
  named_acts latest [] = []
  named_acts latest (Invoke p k i ∷ acts) = Invoke p k (named i) ∷ named_acts (set_at latest p (part i)) acts
  named_acts latest (Linearize c ∷ acts) = Linearize (named_call c) ∷ named_acts latest acts
  named_acts latest (Respond p k r ∷ acts) = Respond p k (latest p, r) ∷ named_acts latest acts

  part_acts : (x : ℕ) (latest next next' : ℕ → ℕ) (events : List (Event I R)) → of_object x next (named_acts latest (numbered next' events)) ≡ numbered next (events_of_part part x latest events)
  part_acts x latest next next' [] = refl
  part_acts x latest next next' (Call p i ∷ events) = elim (number_cases (part i) x) [
    | inl same ↦ rw same.1 (ap (λ (acts : List (Act I R)). Invoke p (next p) i ∷ acts) (part_acts x (set_at latest p (part i)) (set_at next p (next p + 1)) (set_at next' p (next' p + 1)) events))
    | inr other ↦ rw other.1 (part_acts x (set_at latest p (part i)) next (set_at next' p (next' p + 1)) events)
  ]
  part_acts x latest next next' (Return p r ∷ events) = elim (number_cases (latest p) x) [
    | inl same ↦ rw same.1 (ap (λ (acts : List (Act I R)). Respond p (next p - 1) r ∷ acts) (part_acts x latest next next' events))
    | inr other ↦ rw other.1 (part_acts x latest next next' events)
  ]

  seen : (latest : ℕ → ℕ) (acts : List (Act I R)) → observed (named_acts latest acts) ≡ named_acts latest (observed acts)
  seen latest [] = refl
  seen latest (Invoke p k i ∷ acts) = ap (λ l. Invoke p k (named i) ∷ l) (seen (set_at latest p (part i)) acts)
  seen latest (Linearize c ∷ acts) = seen latest acts
  seen latest (Respond p k r ∷ acts) = ap (λ l. Respond p k (latest p, r) ∷ l) (seen latest acts)

  -- the state of a part
  states : (x : ℕ) (s : ℕ → S) (is : List I) → state_after whole s (map named is) x ≡ state_after object (s x) (filter (λ j. part j == x) is)
  states x s [] = refl
  states x s (i ∷ is) = states x (set_at s (part i) (object.next (s (part i)) i)) is ∙ elim (number_cases (part i) x) [
    | inl same ↦ ap (λ t. state_after object t (filter (λ j. part j == x) is)) (ap (λ y. set_at s y (object.next (s y) i) x) same.0 ∙ set_at_here s x (object.next (s x) i))
        ∙ sym (ap (λ b. state_after object (s x) (cond b (i ∷ filter (λ j. part j == x) is) (filter (λ j. part j == x) is))) same.1)
    | inr other ↦ ap (λ t. state_after object t (filter (λ j. part j == x) is)) (set_at_elsewhere s (part i) (object.next (s (part i)) i) x (λ e. other.0 (sym e)))
        ∙ sym (ap (λ b. state_after object (s x) (cond b (i ∷ filter (λ j. part j == x) is) (filter (λ j. part j == x) is))) other.1)
  ]

  -- the response to an invocation at a place
  answer_here : (is : List I) (place : ℕ) (i : I) → slice_get is place ≡ Some i → response_at object object.initial is place ≡ Some (object.answer (state_after object object.initial (take place is)) i)
  answer_here is place i at = ap (option_map (object.answer (state_after object object.initial (take place is)))) at

  answer_there : IsInParts object part → (is : List I) (place : ℕ) (i : I) → slice_get is place ≡ Some i
      → response_at whole starts (map named is) place ≡ Some (part i, object.answer (state_after object object.initial (take place is)) i)
  answer_there apart is place i at =
      ap (option_map (whole.answer (state_after whole starts (take place (map named is))))) (slice_get-map named is place ∙ ap (option_map named) at)
      ∙ ap (λ js. Some (part i, object.answer (state_after whole starts js (part i)) i)) (take-map named place is)
      ∙ ap (λ s. Some (part i, object.answer s i)) (states (part i) starts (take place is))
      ∙ ap (λ r. Some (part i, r)) (sym (apart (take place is) i))

  invs_named : (cs : List (Invoked I)) → invs whole (map named_call cs) ≡ map named (invs object cs)
  invs_named [] = refl
  invs_named (c ∷ cs) = ap (λ is. named c.inv ∷ is) (invs_named cs)

  inv_at : (cs : List (Invoked I)) (place : ℕ) (c : Invoked I) → slice_get cs place ≡ Some c → slice_get (invs object cs) place ≡ Some c.inv
  inv_at cs place c at = slice_get-map (λ (d : Invoked I). d.inv) cs place ∙ ap (option_map (λ (d : Invoked I). d.inv)) at

  call_at : (cs : List (Invoked I)) (place : ℕ) (c : Invoked I) → slice_get cs place ≡ Some c → slice_get (map named_call cs) place ≡ Some (named_call c)
  call_at cs place c at = slice_get-map named_call cs place ∙ ap (option_map named_call) at

  plain_some : (found : Option (Invoked I)) (d : Invoked (ℕ × I)) → option_map named_call found ≡ Some d → (c : Invoked I) × (found ≡ Some c) × (named_call c ≡ d)
  plain_some None d e = absurd (let f : None ≡ Some d = e in cc)
  plain_some (Some c) d e = (c, refl, (let f : Some (named_call c) ≡ Some d = e in cc))

  plain_none : (found : Option (Invoked I)) → option_map named_call found ≡ None → found ≡ None
  plain_none None e = refl
  plain_none (Some c) e = absurd (let f : Some (named_call c) ≡ None = e in cc)

  plain_at : (cs : List (Invoked I)) (place : ℕ) (d : Invoked (ℕ × I)) → slice_get (map named_call cs) place ≡ Some d → (c : Invoked I) × (slice_get cs place ≡ Some c) × (named_call c ≡ d)
  plain_at cs place d at = plain_some (slice_get cs place) d (sym (slice_get-map named_call cs place) ∙ at)

  not_named : (cs : List (Invoked I)) (c : Invoked I) → ¬ (Contains cs c) → ¬ (Contains (map named_call cs) (named_call c))
  not_named cs c not there =
      let found = place_of_member (map named_call cs) (named_call c) there in
      let plain = plain_at cs found.0 (named_call c) found.1 in
      let same : plain.0 ≡ c = ap plain_call plain.2 in
      not (subst (λ d. Contains cs d) same (member cs found.0 plain.0 plain.1))

  not_plain : (cs : List (Invoked I)) (c : Invoked I) → ¬ (Contains (map named_call cs) (named_call c)) → ¬ (Contains cs c)
  not_plain cs c not there =
      let found = place_of_member cs c there in
      not (member (map named_call cs) found.0 (named_call c) (call_at cs found.0 c found.1))

  -- the object stands where the objects together do
  record Matches (a : Atomic S I) (b : Atomic (ℕ → S) (ℕ × I)) : Type 0 where
    start : a.start ≡ object.initial
    starts_so : b.start ≡ starts
    agreed : b.agreed ≡ map named_call a.agreed
    open_call : (p : ℕ) → b.open_call p ≡ option_map named_call (a.open_call p)
    next_nth : (p : ℕ) → b.next_nth p ≡ a.next_nth p

  -- latest is the part of each open call
  record IsLatest (latest : ℕ → ℕ) (a : Atomic S I) : Type 0 where
    each : (p : ℕ) (c : Invoked I) → a.open_call p ≡ Some c → latest p ≡ part c.inv

  set_open : (f : ℕ → Option (Invoked I)) (g : ℕ → Option (Invoked (ℕ × I))) (p q : ℕ) (v : Option (Invoked I)) → g q ≡ option_map named_call (f q)
      → set_at g p (option_map named_call v) q ≡ option_map named_call (set_at f p v q)
  set_open f g p q v same = elim (number_cases q p) [ inl e ↦ rw e.1 refl | inr e ↦ rw e.1 same ]

  set_next : (f g : ℕ → ℕ) (p q v : ℕ) → g q ≡ f q → set_at g p v q ≡ set_at f p v q
  set_next f g p q v same = elim (number_cases q p) [ inl e ↦ rw e.1 refl | inr e ↦ rw e.1 same ]

  -- what each act of the object leaves
  module _ (a : Atomic S I) (b : Atomic (ℕ → S) (ℕ × I)) (m : Matches a b) where
    invoked : (p k : ℕ) (i : I) (a' : Atomic S I) → Accepts object a (Invoke p k i) a'
        → Matches a' (record b { open_call = set_at b.open_call p (Some (named_call (record { process = p; nth = k; inv = i }))); next_nth = set_at b.next_nth p (k + 1) })
    invoked p k i a' h = record {
      start = ap (λ (y : Atomic S I). y.start) h.2 ∙ m.start;
      starts_so = m.starts_so;
      agreed = m.agreed ∙ sym (ap (λ (y : Atomic S I). map named_call y.agreed) h.2);
      open_call = λ q. set_open a.open_call b.open_call p q (Some (record { process = p; nth = k; inv = i })) (m.open_call q) ∙ sym (ap (λ (y : Atomic S I). option_map named_call (y.open_call q)) h.2);
      next_nth = λ q. set_next a.next_nth b.next_nth p q (k + 1) (m.next_nth q) ∙ sym (ap (λ (y : Atomic S I). y.next_nth q) h.2);
    }

    took_effect : (c : Invoked I) (a' : Atomic S I) → Accepts object a (Linearize c) a' → Matches a' (record b { agreed = b.agreed ++ named_call c ∷ [] })
    took_effect c a' h = record {
      start = ap (λ (y : Atomic S I). y.start) h.2 ∙ m.start;
      starts_so = m.starts_so;
      agreed = ap (λ cs. cs ++ named_call c ∷ []) m.agreed ∙ sym (map-append named_call a.agreed (c ∷ [])) ∙ sym (ap (λ (y : Atomic S I). map named_call y.agreed) h.2);
      open_call = λ q. m.open_call q ∙ sym (ap (λ (y : Atomic S I). option_map named_call (y.open_call q)) h.2);
      next_nth = λ q. m.next_nth q ∙ sym (ap (λ (y : Atomic S I). y.next_nth q) h.2);
    }

    responded : (p k : ℕ) (r : R) (a' : Atomic S I) → Accepts object a (Respond p k r) a' → Matches a' (record b { open_call = set_at b.open_call p None })
    responded p k r a' h = record {
      start = ap (λ (y : Atomic S I). y.start) h.1 ∙ m.start;
      starts_so = m.starts_so;
      agreed = m.agreed ∙ sym (ap (λ (y : Atomic S I). map named_call y.agreed) h.1);
      open_call = λ q. set_open a.open_call b.open_call p q None (m.open_call q) ∙ sym (ap (λ (y : Atomic S I). option_map named_call (y.open_call q)) h.1);
      next_nth = λ q. m.next_nth q ∙ sym (ap (λ (y : Atomic S I). y.next_nth q) h.1);
    }

    -- the response of the objects together
    response_there : IsInParts object part → (place : ℕ) (c : Invoked I) → slice_get a.agreed place ≡ Some c
        → response_at whole b.start (invs whole b.agreed) place ≡ Some (part c.inv, object.answer (state_after object object.initial (take place (invs object a.agreed))) c.inv)
    response_there apart place c at =
        ap (λ s. response_at whole s (invs whole b.agreed) place) m.starts_so
        ∙ ap (λ cs. response_at whole starts (invs whole cs) place) m.agreed
        ∙ ap (λ is. response_at whole starts is place) (invs_named a.agreed)
        ∙ answer_there apart (invs object a.agreed) place c.inv (inv_at a.agreed place c at)

    response_here : (place : ℕ) (c : Invoked I) → slice_get a.agreed place ≡ Some c
        → response_at object a.start (invs object a.agreed) place ≡ Some (object.answer (state_after object object.initial (take place (invs object a.agreed))) c.inv)
    response_here place c at = ap (λ s. response_at object s (invs object a.agreed) place) m.start ∙ answer_here (invs object a.agreed) place c.inv (inv_at a.agreed place c at)

  latest_invoked : (latest : ℕ → ℕ) (a a' : Atomic S I) (p k : ℕ) (i : I) → Accepts object a (Invoke p k i) a' → IsLatest latest a → IsLatest (set_at latest p (part i)) a'
  latest_invoked latest a a' p k i h l = record {
    each = λ q d is.
        let now : set_at a.open_call p (Some (record { process = p; nth = k; inv = i })) q ≡ Some d = sym (ap (λ (y : Atomic S I). y.open_call q) h.2) ∙ is in
        elim (number_cases q p) [
          | inl e ↦ rw e.1 (
              let own : Some (record { process = p; nth = k; inv = i }) ≡ Some d = sym (ap (λ b. cond b (Some (record { process = p; nth = k; inv = i })) (a.open_call q)) e.1) ∙ now in
              let same : record { process = p; nth = k; inv = i } ≡ d = cc in
              ap (λ (y : Invoked I). part y.inv) same)
          | inr e ↦ rw e.1 (l.each q d (sym (set_at_elsewhere a.open_call p (Some (record { process = p; nth = k; inv = i })) q e.0) ∙ now))
        ];
  }

  latest_kept : (latest : ℕ → ℕ) (a a' : Atomic S I) → ((q : ℕ) → (a'.open_call q ≡ None) ⊎ (a'.open_call q ≡ a.open_call q)) → IsLatest latest a → IsLatest latest a'
  latest_kept latest a a' same l = record {
    each = λ q d is. elim (same q) [
      | inl none ↦ absurd (let e : None ≡ Some d = sym none ∙ is in cc)
      | inr e ↦ l.each q d (sym e ∙ is)
    ];
  }

  closes : (a a' : Atomic S I) (p k : ℕ) (r : R) → Accepts object a (Respond p k r) a' → (q : ℕ) → (a'.open_call q ≡ None) ⊎ (a'.open_call q ≡ a.open_call q)
  closes a a' p k r h q = elim (number_cases q p) [
    | inl e ↦ inl (ap (λ (y : Atomic S I). y.open_call q) h.1 ∙ ap (λ b. cond b None (a.open_call q)) e.1)
    | inr e ↦ inr (ap (λ (y : Atomic S I). y.open_call q) h.1 ∙ set_at_elsewhere a.open_call p None q e.0)
  ]

  -- what the object takes, the objects together take
  forward : IsInParts object part → (acts : List (Act I R)) (latest : ℕ → ℕ) (a z : Atomic S I) (b : Atomic (ℕ → S) (ℕ × I)) → Matches a b → IsLatest latest a → AcceptsAll object a acts z
      → (w : Atomic (ℕ → S) (ℕ × I)) × AcceptsAll whole b (named_acts latest acts) w
  forward apart [] latest a z b m l h = (b, refl)
  forward apart (Invoke p k i ∷ acts) latest a z b m l h =
      let c : Invoked I = record { process = p; nth = k; inv = i } in
      let b' : Atomic (ℕ → S) (ℕ × I) = record b { open_call = set_at b.open_call p (Some (named_call c)); next_nth = set_at b.next_nth p (k + 1) } in
      let rest = forward apart acts (set_at latest p (part i)) h.0 z b' (invoked a b m p k i h.0 h.1) (latest_invoked latest a h.0 p k i h.1 l) h.2 in
      (rest.0, (b', (m.open_call p ∙ ap (option_map named_call) h.1.0, m.next_nth p ∙ h.1.1, refl), rest.1))
  forward apart (Linearize c ∷ acts) latest a z b m l h =
      let b' : Atomic (ℕ → S) (ℕ × I) = record b { agreed = b.agreed ++ named_call c ∷ [] } in
      let rest = forward apart acts latest h.0 z b' (took_effect a b m c h.0 h.1) (latest_kept latest a h.0 (λ q. inr (ap (λ (y : Atomic S I). y.open_call q) h.1.2)) l) h.2 in
      let absent : ¬ (Contains b.agreed (named_call c)) = subst (λ cs. ¬ (Contains cs (named_call c))) (sym m.agreed) (not_named a.agreed c h.1.1) in
      (rest.0, (b', (m.open_call c.process ∙ ap (option_map named_call) h.1.0, absent, refl), rest.1))
  forward apart (Respond p k r ∷ acts) latest a z b m l h =
      let c : Invoked I = record { process = p; nth = k; inv = h.1.0.0 } in
      let place = h.1.0.1 in
      let b' : Atomic (ℕ → S) (ℕ × I) = record b { open_call = set_at b.open_call p None } in
      let rest = forward apart acts latest h.0 z b' (responded a b m p k r h.0 h.1) (latest_kept latest a h.0 (closes a h.0 p k r h.1) l) h.2 in
      let answer = object.answer (state_after object object.initial (take place (invs object a.agreed))) c.inv in
      let both : Some answer ≡ Some r = sym (response_here a b m place c h.1.0.3) ∙ h.1.0.4 in
      let same : answer ≡ r = cc in
      let told : response_at whole b.start (invs whole b.agreed) place ≡ Some (latest p, r) =
      response_there a b m apart place c h.1.0.3 ∙ ap (λ x. Some (x, answer)) (sym (l.each p c h.1.0.2)) ∙ ap (λ x. Some (latest p, x)) same in
      let open_there : b.open_call p ≡ Some (named_call c) = m.open_call p ∙ ap (option_map named_call) h.1.0.2 in
      let at_there : slice_get b.agreed place ≡ Some (named_call c) = ap (λ cs. slice_get cs place) m.agreed ∙ call_at a.agreed place c h.1.0.3 in
      (rest.0, (b', ((named c.inv, place, open_there, at_there, told), refl), rest.1))

  at_opening : Matches (at_start object.initial) (at_start starts)
  at_opening = record { start = refl; starts_so = refl; agreed = refl; open_call = λ p. refl; next_nth = λ p. refl }

  whole_is : IsInParts object part → (history : List (Event I R)) → IsLinearizableHistory object object.initial (acts_of history)
      → IsLinearizableHistory whole starts (named_acts (λ p. 0) (acts_of history))
  whole_is apart history linearizable =
      let its = linearizable.1 in
      let none : IsLatest (λ p. 0) (at_start object.initial) = record { each = λ p c is. absurd (let e : None ≡ Some c = is in cc) } in
      let run = forward apart its.0 (λ p. 0) (at_start object.initial) its.1 (at_start starts) at_opening none its.3 in
      (run.0.agreed, (named_acts (λ p. 0) its.0, run.0, seen (λ p. 0) its.0 ∙ ap (named_acts (λ p. 0)) its.2, run.1, refl))

  pub part_is : IsInParts object part → (history : List (Event I R)) → IsLinearizableHistory object object.initial (acts_of history) → (x : ℕ)
      → IsLinearizableHistory object object.initial (acts_of (part_of part x history))
  part_is apart history linearizable x =
      subst (λ acts. IsLinearizableHistory object object.initial acts) (part_acts x (λ p. 0) (λ p. 0) (λ p. 0) history)
      (project (λ y. object) x starts (named_acts (λ p. 0) (acts_of history)) (whole_is apart history linearizable))

  -- the acts without their parts
  abbrev plain_acts : List (Act (ℕ × I) (ℕ × R)) → List (Act I R)
  plain_acts [] = []
  plain_acts (Invoke p k call ∷ acts) = Invoke p k call.1 ∷ plain_acts acts
  plain_acts (Linearize c ∷ acts) = Linearize (plain_call c) ∷ plain_acts acts
  plain_acts (Respond p k resp ∷ acts) = Respond p k resp.1 ∷ plain_acts acts

  plain_named : (latest : ℕ → ℕ) (acts : List (Act I R)) → plain_acts (named_acts latest acts) ≡ acts
  plain_named latest [] = refl
  plain_named latest (Invoke p k i ∷ acts) = ap (λ (l : List (Act I R)). Invoke p k i ∷ l) (plain_named (set_at latest p (part i)) acts)
  plain_named latest (Linearize c ∷ acts) = ap (λ (l : List (Act I R)). Linearize c ∷ l) (plain_named latest acts)
  plain_named latest (Respond p k r ∷ acts) = ap (λ (l : List (Act I R)). Respond p k r ∷ l) (plain_named latest acts)

  plain_seen : (acts : List (Act (ℕ × I) (ℕ × R))) → observed (plain_acts acts) ≡ plain_acts (observed acts)
  plain_seen [] = refl
  plain_seen (Invoke p k call ∷ acts) = ap (λ (l : List (Act I R)). Invoke p k call.1 ∷ l) (plain_seen acts)
  plain_seen (Linearize c ∷ acts) = plain_seen acts
  plain_seen (Respond p k resp ∷ acts) = ap (λ (l : List (Act I R)). Respond p k resp.1 ∷ l) (plain_seen acts)

  -- each invocation is named by its part
  abbrev AreNamed : List (Act (ℕ × I) (ℕ × R)) → Type 0
  AreNamed [] = Unit {0}
  AreNamed (Invoke p k call ∷ acts) = (call.0 ≡ part call.1) × AreNamed acts
  AreNamed (Linearize c ∷ acts) = AreNamed acts
  AreNamed (Respond p k resp ∷ acts) = AreNamed acts

  are_named : (latest : ℕ → ℕ) (acts : List (Act I R)) → AreNamed (named_acts latest acts)
  are_named latest [] = tt
  are_named latest (Invoke p k i ∷ acts) = (refl, are_named (set_at latest p (part i)) acts)
  are_named latest (Linearize c ∷ acts) = are_named latest acts
  are_named latest (Respond p k r ∷ acts) = are_named latest acts

  named_seen : (acts : List (Act (ℕ × I) (ℕ × R))) → AreNamed (observed acts) → AreNamed acts
  named_seen [] n = tt
  named_seen (Invoke p k call ∷ acts) n = (n.0, named_seen acts n.1)
  named_seen (Linearize c ∷ acts) n = named_seen acts n
  named_seen (Respond p k resp ∷ acts) n = named_seen acts n

  -- what the objects together take, the object takes
  backward : IsInParts object part → (acts : List (Act (ℕ × I) (ℕ × R))) (a : Atomic S I) (b z : Atomic (ℕ → S) (ℕ × I)) → Matches a b → AreNamed acts → AcceptsAll whole b acts z
      → (w : Atomic S I) × AcceptsAll object a (plain_acts acts) w
  backward apart [] a b z m n h = (a, refl)
  backward apart (Invoke p k call ∷ acts) a b z m n h =
      let c : Invoked I = record { process = p; nth = k; inv = call.1 } in
      let a' : Atomic S I = record a { open_call = set_at a.open_call p (Some c); next_nth = set_at a.next_nth p (k + 1) } in
      let ok : Accepts object a (Invoke p k call.1) a' = (plain_none (a.open_call p) (sym (m.open_call p) ∙ h.1.0), sym (m.next_nth p) ∙ h.1.1, refl) in
      let with_call : ℕ × I → Atomic (ℕ → S) (ℕ × I) = λ x. record b { open_call = set_at b.open_call p (Some (record { process = p; nth = k; inv = x })); next_nth = set_at b.next_nth p (k + 1) } in
      let there : Matches a' h.0 = subst (λ y. Matches a' y) (sym (h.1.2 ∙ ap (λ x. with_call (x, call.1)) n.0)) (invoked a b m p k call.1 a' ok) in
      let rest = backward apart acts a' h.0 z there n.1 h.2 in
      (rest.0, (a', ok, rest.1))
  backward apart (Linearize d ∷ acts) a b z m n h =
      let found = plain_some (a.open_call d.process) d (sym (m.open_call d.process) ∙ h.1.0) in
      let back : named_call (plain_call d) ≡ d = ap named_call (sym (ap plain_call found.2)) ∙ found.2 in
      let a' : Atomic S I = record a { agreed = a.agreed ++ plain_call d ∷ [] } in
      let absent : ¬ (Contains a.agreed (plain_call d)) = not_plain a.agreed (plain_call d)
      (subst (λ cs. ¬ (Contains cs (named_call (plain_call d)))) m.agreed (subst (λ x. ¬ (Contains b.agreed x)) (sym back) h.1.1)) in
      let ok : Accepts object a (Linearize (plain_call d)) a' = (found.1 ∙ ap Some (ap plain_call found.2), absent, refl) in
      let with_point : Invoked (ℕ × I) → Atomic (ℕ → S) (ℕ × I) = λ x. record b { agreed = b.agreed ++ x ∷ [] } in
      let there : Matches a' h.0 = subst (λ y. Matches a' y) (sym (h.1.2 ∙ ap with_point (sym back))) (took_effect a b m (plain_call d) a' ok) in
      let rest = backward apart acts a' h.0 z there n h.2 in
      (rest.0, (a', ok, rest.1))
  backward apart (Respond p k resp ∷ acts) a b z m n h =
      let d : Invoked (ℕ × I) = record { process = p; nth = k; inv = h.1.0.0 } in
      let place = h.1.0.1 in
      let found = plain_some (a.open_call p) d (sym (m.open_call p) ∙ h.1.0.2) in
      let got = plain_at a.agreed place d (ap (λ cs. slice_get cs place) (sym m.agreed) ∙ h.1.0.3) in
      let at_here : slice_get a.agreed place ≡ Some (plain_call d) = got.1 ∙ ap Some (ap plain_call got.2) in
      let answer = object.answer (state_after object object.initial (take place (invs object a.agreed))) h.1.0.0.1 in
      let both : Some (part h.1.0.0.1, answer) ≡ Some resp = sym (response_there a b m apart place (plain_call d) at_here) ∙ h.1.0.4 in
      let pair : (part h.1.0.0.1, answer) ≡ resp = cc in
      let told : response_at object a.start (invs object a.agreed) place ≡ Some resp.1 = response_here a b m place (plain_call d) at_here ∙ ap (λ (x : ℕ × R). Some x.1) pair in
      let a' : Atomic S I = record a { open_call = set_at a.open_call p None } in
      let ok : Accepts object a (Respond p k resp.1) a' = ((h.1.0.0.1, place, found.1 ∙ ap Some (ap plain_call found.2), at_here, told), refl) in
      let there : Matches a' h.0 = subst (λ y. Matches a' y) (sym h.1.1) (responded a b m p k resp.1 a' ok) in
      let rest = backward apart acts a' h.0 z there n h.2 in
      (rest.0, (a', ok, rest.1))

  -- a process's acts are in turn, whatever they are named
  invoke_turn : {J Q : Type 0} (o : Bool) (k q m : ℕ) (i : I) (j : J) (xs : List (Act I R)) (ys : List (Act J Q)) → ((l : ℕ) → AreInTurn true l xs → AreInTurn true l ys)
      → AreInTurn o k (Invoke q m i ∷ xs) → AreInTurn o k (Invoke q m j ∷ ys)
  invoke_turn true k q m i j xs ys f h = absurd h
  invoke_turn false k q m i j xs ys f h = (h.0, f k h.1)

  respond_turn : {J Q : Type 0} (o : Bool) (k q m : ℕ) (r : R) (s : Q) (xs : List (Act I R)) (ys : List (Act J Q)) → ((l : ℕ) → AreInTurn false l xs → AreInTurn false l ys)
      → AreInTurn o k (Respond q m r ∷ xs) → AreInTurn o k (Respond q m s ∷ ys)
  respond_turn true k q m r s xs ys f h = (h.0, f (k + 1) h.1)
  respond_turn false k q m r s xs ys f h = absurd h

  point_turn : (o : Bool) (k : ℕ) (c : Invoked I) (xs : List (Act I R)) → AreInTurn o k (Linearize c ∷ xs) → ⊥
  point_turn true k c xs h = h
  point_turn false k c xs h = h

  turns : (p : ℕ) (o : Bool) (k : ℕ) (latest : ℕ → ℕ) (acts : List (Act I R)) → AreInTurn o k (of_process p acts) → AreInTurn o k (of_process p (named_acts latest acts))
  turns p o k latest [] h = tt
  turns p o k latest (Invoke q m i ∷ acts) h = elim (number_cases q p) [
    | inl e ↦ rw e.1 (invoke_turn o k q m i (named i) (of_process p acts) (of_process p (named_acts (set_at latest q (part i)) acts)) (λ l. turns p true l (set_at latest q (part i)) acts) (rw e.1 at h))
    | inr e ↦ rw e.1 (turns p o k (set_at latest q (part i)) acts (rw e.1 at h))
  ]
  turns p o k latest (Linearize c ∷ acts) h = elim (number_cases c.process p) [
    | inl e ↦ absurd (point_turn o k c (of_process p acts) (rw e.1 at h))
    | inr e ↦ rw e.1 (turns p o k latest acts (rw e.1 at h))
  ]
  turns p o k latest (Respond q m r ∷ acts) h = elim (number_cases q p) [
    | inl e ↦ rw e.1 (respond_turn o k q m r (latest q, r) (of_process p acts) (of_process p (named_acts latest acts)) (λ l. turns p false l latest acts) (rw e.1 at h))
    | inr e ↦ rw e.1 (turns p o k latest acts (rw e.1 at h))
  ]

  plain_is : IsInParts object part → (history : List (Event I R)) → IsLinearizableHistory whole starts (named_acts (λ p. 0) (acts_of history))
      → IsLinearizableHistory object object.initial (acts_of history)
  plain_is apart history linearizable =
      let its = linearizable.1 in
      let n = named_seen its.0 (subst AreNamed (sym its.2) (are_named (λ p. 0) (acts_of history))) in
      let run = backward apart its.0 (at_start object.initial) (at_start starts) its.1 at_opening n its.3 in
      (run.0.agreed, (plain_acts its.0, run.0, plain_seen its.0 ∙ ap plain_acts its.2 ∙ plain_named (λ p. 0) (acts_of history), run.1, refl))

  pub IsPartByPart-holds : IsInParts object part → (history : List (Event I R)) → IsPartByPart object part history
  IsPartByPart-holds apart history well = (
    λ each. plain_is apart history
        ((IsLocal-holds (λ y. object) starts (named_acts (λ p. 0) (acts_of history)) (λ p. turns p false 0 (λ p. 0) (acts_of history) (well p))).0
        (λ x. subst (λ acts. IsLinearizableHistory object object.initial acts) (sym (part_acts x (λ p. 0) (λ p. 0) (λ p. 0) history)) (each x))),
    part_is apart history,
  )

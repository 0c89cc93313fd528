-- An atomic object goes on behind the calls of ended eras: what it accepts, it accepts with those calls before it.
use Rattle.uni_model.proofs.Vocabulary.{Accepts, AcceptsAll, Act, Atomic, Contains, Contains-append_cases, Invoke, Invoked, Linearize, List, None, Respond, Sequential, Some, [], ap, append_assoc, arith, inl, inr, length, length-map, map, map-append, response_at, set_at, state_after, subst, sym, ℕ, ◌++◌, ◌+◌, ◌<◌, ◌∙◌, ◌∷◌, ◌≡◌, ◌≤◌}
use Rattle.uni_model.proofs.Written.{set_at-cases}
use Rattle.uni_model.proofs.Appended.{slice_get-append_right, response_at-append}

module _ {S I R : Type 0} (object : Sequential S I R) (start : S) (prefix : List (Invoked I)) where
  -- the object that started before the calls before it
  abbrev pub behind : Atomic S I → Atomic S I
  behind a = record a { start = start; agreed = prefix ++ a.agreed }

  -- The object starts where the calls before it end. These are older than its own, which are numbered from first p on for
  -- each process p.
  pub record IsBehind (first : ℕ → ℕ) (a : Atomic S I) : Type 0 where
    pub state : state_after object start (map (λ (c : Invoked I). c.inv) prefix) ≡ a.start
    pub old : (c : Invoked I) → Contains prefix c → c.nth < first c.process
    pub open_call : (p : ℕ) (o : Invoked I) → a.open_call p ≡ Some o → first p ≤ o.nth
    pub next_nth : (p : ℕ) → first p ≤ a.next_nth p

  module _ (first : ℕ → ℕ) (a : Atomic S I) (h : IsBehind first a) where
    open_later : (p k : ℕ) (i : I) → a.next_nth p ≡ k → (q : ℕ) (o : Invoked I) → set_at a.open_call p (Some (record { process = p; nth = k; inv = i })) q ≡ Some o → first q ≤ o.nth
    open_later p k i number q o e = elim (set_at-cases a.open_call p (Some (record { process = p; nth = k; inv = i })) q) [
      | inl here ↦
          let same : record { process = p; nth = k; inv = i } ≡ o = (let f = here.1 in cc) in
          let nth : k ≡ o.nth = ap (λ (x : Invoked I). x.nth) same in
          let least : first p ≤ a.next_nth p = h.next_nth p in
          subst (λ r. first r ≤ o.nth) (sym here.0) (omega arith)
      | inr other ↦ h.open_call q o (sym other.1 ∙ e)
    ]

    next_later : (p k : ℕ) → a.next_nth p ≡ k → (q : ℕ) → first q ≤ set_at a.next_nth p (k + 1) q
    next_later p k number q = elim (set_at-cases a.next_nth p (k + 1) q) [
      | inl here ↦ rw here.1 (let least : first p ≤ a.next_nth p = h.next_nth p in subst (λ r. first r ≤ k + 1) (sym here.0) (omega arith))
      | inr other ↦ rw other.1 (h.next_nth q)
    ]

    closed_later : (p q : ℕ) (o : Invoked I) → set_at a.open_call p None q ≡ Some o → first q ≤ o.nth
    closed_later p q o e = elim (set_at-cases a.open_call p None q) [ inl here ↦ absurd (let f = here.1 in cc) | inr other ↦ h.open_call q o (sym other.1 ∙ e) ]

    -- a call that is open isn't one of those in prefix
    not_in_front : (c : Invoked I) → a.open_call c.process ≡ Some c → ¬ (Contains prefix c)
    not_in_front c is there =
        let recent : first c.process ≤ c.nth = h.open_call c.process c is in
        let old : c.nth < first c.process = h.old c there in
        omega arith

    -- a place of the object's calls is so much further behind
    response_behind : (place : ℕ) (r : R) → response_at object a.start (map (λ (c : Invoked I). c.inv) a.agreed) place ≡ Some r
        → response_at object start (map (λ (c : Invoked I). c.inv) (prefix ++ a.agreed)) (length prefix + place) ≡ Some r
    response_behind place r e =
        let long : length (map (λ (c : Invoked I). c.inv) prefix) ≡ length prefix = length-map prefix (λ (c : Invoked I). c.inv) in
        ap (λ is. response_at object start is (length prefix + place)) (map-append (λ (c : Invoked I). c.inv) prefix a.agreed)
        ∙ ap (λ k. response_at object start (map (λ (c : Invoked I). c.inv) prefix ++ map (λ (c : Invoked I). c.inv) a.agreed) (k + place)) (sym long)
        ∙ response_at-append object start (map (λ (c : Invoked I). c.inv) prefix) (map (λ (c : Invoked I). c.inv) a.agreed) place
        ∙ ap (λ s. response_at object s (map (λ (c : Invoked I). c.inv) a.agreed) place) h.state ∙ e

    Accepts-behind : (act : Act I R) (b : Atomic S I) → Accepts object a act b → IsBehind first b × Accepts object (behind a) act (behind b)
    Accepts-behind (Invoke p k i) b ok = (
      subst (λ x. IsBehind first x) (sym ok.2) (record { state = h.state; old = h.old; open_call = open_later p k i ok.1; next_nth = next_later p k ok.1 }),
      (ok.0, ok.1, ap behind ok.2),
    )
    Accepts-behind (Linearize c) b ok = (
      subst (λ x. IsBehind first x) (sym ok.2) (record { state = h.state; old = h.old; open_call = h.open_call; next_nth = h.next_nth }),
      (
        ok.0,
        λ there. elim (Contains-append_cases prefix a.agreed c there) [ inl old ↦ not_in_front c ok.0 old | inr own ↦ ok.1 own ],
        ap behind ok.2 ∙ ap (λ cs. let x : Atomic S I = record a { start = start; agreed = cs } in x) (sym (append_assoc prefix a.agreed (c ∷ []))),
      ),
    )
    Accepts-behind (Respond p k r) b ok = (
      subst (λ x. IsBehind first x) (sym ok.1) (record { state = h.state; old = h.old; open_call = closed_later p; next_nth = h.next_nth }),
      (
        (ok.0.0, length prefix + ok.0.1, ok.0.2, slice_get-append_right prefix a.agreed ok.0.1 ∙ ok.0.3, response_behind ok.0.1 r ok.0.4),
        ap behind ok.1,
      ),
    )

  pub AcceptsAll-behind : (first : ℕ → ℕ) (a : Atomic S I) (acts : List (Act I R)) (b : Atomic S I) → IsBehind first a → AcceptsAll object a acts b
      → IsBehind first b × AcceptsAll object (behind a) acts (behind b)
  AcceptsAll-behind first a [] b h same = (subst (λ x. IsBehind first x) (sym same) h, ap behind same)
  AcceptsAll-behind first a (x ∷ acts) b h ok =
      let one = Accepts-behind first a h x ok.0 ok.1 in
      let rest = AcceptsAll-behind first ok.0 acts b one.0 ok.2 in
      (rest.0, (behind ok.0, one.1, rest.1))

-- What an atomic object keeps from its start on: the calls of each process take effect in their order, and none ends twice.
use Rattle.uni_model.proofs.Vocabulary.{Accepts, AcceptsAll, Act, Atomic, Contains, Contains-append_left, Contains-push, Invoke, Invoked, Linearize, List, None, Respond, Sequential, Some, [], ap, arith, at_start, cond, count_by, count_by_more_yes, eq-eqb, false, get_or_from_slice_get, inl, inr, length, map, map-append, nat_eq, refl, response_at, set_at, slice_get, slice_get_within, subst, suc, sum_by-take-le, sum_by_push, sym, take, take-append-le, take_all, true, zero, ℕ, ◌++◌, ◌+◌, ◌<◌, ◌==◌, ◌∙◌, ◌∷◌, ◌≡◌, ◌≢◌, ◌≤◌, ◌⊎◌}
use Rattle.uni_model.proofs.Written.{number_cases, set_at-cases}
use Rattle.uni_model.proofs.Appended.{slice_get-append_left, slice_get-append_cases}

-- how many of these calls are of a process
abbrev pub effects : {I : Type 0} → ℕ → List (Invoked I) → ℕ
effects p calls = count_by (λ c. c.process == p) calls

module _ {I : Type 0} where
  abbrev counts : ℕ → Invoked I → ℕ
  counts p c = cond (c.process == p) 1 0

  abbrev call_with : (p k : ℕ) → I → Invoked I
  call_with p k i = record { process = p; nth = k; inv = i }

  effects-own : (p : ℕ) (calls : List (Invoked I)) (c : Invoked I) → c.process ≡ p → effects p (calls ++ c ∷ []) ≡ effects p calls + 1
  effects-own p calls c same = let yes : (c.process == p) ≡ true = eq-eqb _ _ same in sum_by_push (counts p) calls c ∙ rw yes refl

  effects-other : (p : ℕ) (calls : List (Invoked I)) (c : Invoked I) → c.process ≢ p → effects p (calls ++ c ∷ []) ≡ effects p calls
  effects-other p calls c apart = elim (number_cases c.process p) [
    | inl same ↦ absurd (apart same.0)
    | inr other ↦ let none : counts p c ≡ 0 = rw other.1 refl in let sum = sum_by_push (counts p) calls c in omega arith
  ]

  -- a call that has taken effect counts
  effects-before : (p : ℕ) (calls : List (Invoked I)) (place : ℕ) (c : Invoked I) → slice_get calls place ≡ Some c → c.process ≡ p → effects p (take place calls) < effects p calls
  effects-before p calls place c at own =
      let inside = slice_get_within calls place c at in
      let more : effects p (take (place + 1) calls) ≡ effects p (take place calls) + 1
      = count_by_more_yes (λ (d : Invoked I). d.process == p) calls place c inside (eq-eqb _ _ (ap (λ (d : Invoked I). d.process) (get_or_from_slice_get calls place c c at) ∙ own)) in
      let most : effects p (take (place + 1) calls) ≤ effects p calls = sum_by-take-le (counts p) calls (place + 1) in
      omega arith

-- The calls that took effect are each process's, in its order: all that it has begun, but for an open one that hasn't yet.
pub record IsOrderly {S I : Type 0} (a : Atomic S I) : Type 0 where
  pub numbered : (i : ℕ) (c : Invoked I) → slice_get a.agreed i ≡ Some c → c.nth ≡ effects c.process (take i a.agreed)
  pub idle : (p : ℕ) → a.open_call p ≡ None → effects p a.agreed ≡ a.next_nth p
  pub latest : (p : ℕ) (o : Invoked I) → a.open_call p ≡ Some o → a.next_nth p ≡ o.nth + 1
  pub placed : (p : ℕ) (o : Invoked I) → a.open_call p ≡ Some o
      → (effects p a.agreed ≡ o.nth) ⊎ ((effects p a.agreed ≡ o.nth + 1) × Contains a.agreed (record { process = p; nth = o.nth; inv = o.inv }))

-- the call k of p was begun, and is open no more
pub record IsOver {S I : Type 0} (a : Atomic S I) (p k : ℕ) : Type 0 where
  pub begun : k < a.next_nth p
  pub later : (o : Invoked I) → a.open_call p ≡ Some o → k < o.nth

-- the call k of p took effect at a place where the object answers r
pub record IsAnswered {S I R : Type 0} (object : Sequential S I R) (a : Atomic S I) (p k : ℕ) (r : R) : Type 0 where
  pub place : ℕ
  pub inv : I
  pub at_place : slice_get a.agreed place ≡ Some (record { process = p; nth = k; inv = inv })
  pub response : response_at object a.start (map (λ (c : Invoked I). c.inv) a.agreed) place ≡ Some r

pub IsOrderly-at_start : {S I : Type 0} (s : S) → IsOrderly {I = I} (at_start s)
IsOrderly-at_start s = record {
  numbered = λ i c at. absurd (cc);
  idle = λ p none. refl;
  latest = λ p o is. absurd (cc);
  placed = λ p o is. absurd (cc);
}

module _ {S I R : Type 0} (object : Sequential S I R) where
  response_at-prefix : (s : S) (is js : List I) (place : ℕ) (r : R) → response_at object s is place ≡ Some r → response_at object s (is ++ js) place ≡ Some r
  response_at-prefix s [] js place r e = absurd (cc)
  response_at-prefix s (i ∷ is) js zero r e = e
  response_at-prefix s (i ∷ is) js (suc place) r e = response_at-prefix (object.next s i) is js place r e

  module _ (a : Atomic S I) (p k : ℕ) (i : I) (h : IsOrderly a) (none : a.open_call p ≡ None) (nth : a.next_nth p ≡ k) where
    abbrev invoked : Atomic S I
    invoked = record a { open_call = set_at a.open_call p (Some (record { process = p; nth = k; inv = i })); next_nth = set_at a.next_nth p (k + 1) }

    -- the open call and the next number of each process
    invoked-cases : (q : ℕ) → ((q ≡ p) × (invoked.open_call q ≡ Some (record { process = p; nth = k; inv = i })) × (invoked.next_nth q ≡ k + 1))
        ⊎ ((q ≢ p) × (invoked.open_call q ≡ a.open_call q) × (invoked.next_nth q ≡ a.next_nth q))
    invoked-cases q = elim (number_cases q p) [ inl same ↦ inl (same.0, rw same.1 refl, rw same.1 refl) | inr other ↦ inr (other.0, rw other.1 refl, rw other.1 refl) ]

    orderly_invoked : IsOrderly invoked
    orderly_invoked = record {
      numbered = h.numbered;
      idle = λ q idle. elim (invoked-cases q) [
        | inl own ↦ absurd (let some = own.1 in cc)
        | inr other ↦ h.idle q (sym other.1 ∙ idle) ∙ sym other.2
      ];
      latest = λ q o is. elim (invoked-cases q) [
        | inl own ↦ let same : record { process = p; nth = k; inv = i } ≡ o = (let some = own.1 in cc) in own.2 ∙ ap (λ (x : Invoked I). x.nth + 1) same
        | inr other ↦ other.2 ∙ h.latest q o (sym other.1 ∙ is)
      ];
      placed = λ q o is. elim (invoked-cases q) [
        | inl own ↦
            let same : record { process = p; nth = k; inv = i } ≡ o = (let some = own.1 in cc) in
            inl (ap (λ x. effects x a.agreed) own.0 ∙ h.idle p none ∙ nth ∙ ap (λ (x : Invoked I). x.nth) same)
        | inr other ↦ h.placed q o (sym other.1 ∙ is)
      ];
    }

  module _ (a : Atomic S I) (c : Invoked I) (h : IsOrderly a) (its : a.open_call c.process ≡ Some c) (new : ¬ (Contains a.agreed c)) where
    abbrev linearized : Atomic S I
    linearized = record a { agreed = a.agreed ++ c ∷ [] }

    not_placed : effects c.process a.agreed ≡ c.nth
    not_placed = elim (h.placed c.process c its) [ inl before ↦ before | inr after ↦ absurd (new after.1) ]

    numbered_linearized : (j : ℕ) (d : Invoked I) → slice_get (a.agreed ++ c ∷ []) j ≡ Some d → d.nth ≡ effects d.process (take j (a.agreed ++ c ∷ []))
    numbered_linearized j d at = elim (slice_get-append_cases a.agreed (c ∷ []) j d at) [
      | inl old ↦
          let inside = slice_get_within a.agreed j d old in
          h.numbered j d old ∙ ap (effects d.process) (sym (take-append-le j a.agreed (c ∷ []) (omega arith)))
      | inr last ↦ by_place last.0 last.1 last.2
    ] where
      by_place : (k : ℕ) → j ≡ length a.agreed + k → slice_get (c ∷ []) k ≡ Some d → d.nth ≡ effects d.process (take j (a.agreed ++ c ∷ []))
      by_place zero place is =
          let same : c ≡ d = cc in
          let here : length a.agreed ≡ j = omega arith in
          let prefix : a.agreed ≡ take j (a.agreed ++ c ∷ []) = sym (take_all (length a.agreed) a.agreed (omega arith)) ∙ sym (take-append-le (length a.agreed) a.agreed (c ∷ []) (omega arith)) ∙ ap (λ n. take n (a.agreed ++ c ∷ [])) here in
          subst (λ (x : Invoked I). x.nth ≡ effects x.process (take j (a.agreed ++ c ∷ []))) same (sym not_placed ∙ ap (effects c.process) prefix)
      by_place (suc k) place is = absurd (cc)

    orderly_linearized : IsOrderly linearized
    orderly_linearized = record {
      numbered = numbered_linearized;
      idle = λ q idle. elim (number_cases c.process q) [
        | inl same ↦ absurd (let is : a.open_call c.process ≡ None = ap a.open_call same.0 ∙ idle in cc)
        | inr other ↦ effects-other q a.agreed c other.0 ∙ h.idle q idle
      ];
      latest = h.latest;
      placed = λ q o is. elim (number_cases c.process q) [
        | inl same ↦
            let its_call : Some c ≡ Some o = sym its ∙ ap a.open_call same.0 ∙ is in
            let own : c ≡ o = cc in
            let count = effects-own q a.agreed c same.0 in
            let before : effects q a.agreed ≡ c.nth = ap (λ x. effects x a.agreed) (sym same.0) ∙ not_placed in
            let nth : c.nth ≡ o.nth = ap (λ (x : Invoked I). x.nth) own in
            let call : c ≡ record { process = q; nth = o.nth; inv = o.inv } = ap (λ x. call_with x c.nth c.inv) same.0 ∙ ap (λ (x : Invoked I). call_with q x.nth x.inv) own in
            inr ((omega arith), subst (Contains (a.agreed ++ c ∷ [])) call (Contains-push a.agreed c))
        | inr other ↦ elim (h.placed q o is) [
          | inl before ↦ inl (effects-other q a.agreed c other.0 ∙ before)
          | inr after ↦ inr (effects-other q a.agreed c other.0 ∙ after.0, Contains-append_left a.agreed (c ∷ []) _ after.1)
        ]
      ];
    }

  module _ (a : Atomic S I) (p k : ℕ) (i : I) (place : ℕ) (h : IsOrderly a) (its : a.open_call p ≡ Some (record { process = p; nth = k; inv = i })) (placed : slice_get a.agreed place ≡ Some (record { process = p; nth = k; inv = i })) where
    abbrev responded : Atomic S I
    responded = record a { open_call = set_at a.open_call p None }

    responded-cases : (q : ℕ) → ((q ≡ p) × (responded.open_call q ≡ None)) ⊎ ((q ≢ p) × (responded.open_call q ≡ a.open_call q))
    responded-cases q = set_at-cases a.open_call p None q

    placed_before : effects p a.agreed ≡ k + 1
    placed_before = elim (h.placed p (record { process = p; nth = k; inv = i }) its) [
      | inl before ↦ absurd (
          let more = effects-before p a.agreed place (record { process = p; nth = k; inv = i }) placed refl in
          let number : k ≡ effects p (take place a.agreed) = h.numbered place (record { process = p; nth = k; inv = i }) placed in
          omega arith)
      | inr after ↦ after.0
    ]

    orderly_responded : IsOrderly responded
    orderly_responded = record {
      numbered = h.numbered;
      idle = λ q idle. elim (responded-cases q) [
        | inl own ↦ ap (λ x. effects x a.agreed) own.0 ∙ placed_before ∙ sym (h.latest p (record { process = p; nth = k; inv = i }) its) ∙ ap a.next_nth (sym own.0)
        | inr other ↦ h.idle q (sym other.1 ∙ idle)
      ];
      latest = λ q o is. elim (responded-cases q) [ inl own ↦ absurd (let none = own.1 in cc) | inr other ↦ h.latest q o (sym other.1 ∙ is) ];
      placed = λ q o is. elim (responded-cases q) [ inl own ↦ absurd (let none = own.1 in cc) | inr other ↦ h.placed q o (sym other.1 ∙ is) ];
    }

    IsOver-responded : IsOver responded p k
    IsOver-responded = record {
      begun = (let next = h.latest p (record { process = p; nth = k; inv = i }) its in let n : a.next_nth p ≡ k + 1 = next in omega arith);
      later = λ o is. elim (responded-cases p) [ inl own ↦ absurd (let none = own.1 in cc) | inr other ↦ absurd (other.0 refl) ];
    }

  orderly : (a b : Atomic S I) (act : Act I R) → IsOrderly a → Accepts object a act b → IsOrderly b
  orderly a b (Invoke p k i) h ok = subst IsOrderly (sym ok.2) (orderly_invoked a p k i h ok.0 ok.1)
  orderly a b (Linearize c) h ok = subst IsOrderly (sym ok.2) (orderly_linearized a c h ok.0 ok.1)
  orderly a b (Respond p k r) h ok = subst IsOrderly (sym ok.1) (orderly_responded a p k ok.0.0 ok.0.1 h ok.0.2 ok.0.3)

  -- what has ended stays so
  IsOver-kept : (a b : Atomic S I) (act : Act I R) (p k : ℕ) → IsOver a p k → Accepts object a act b → IsOver b p k
  IsOver-kept a b (Invoke q j i) p k over ok = subst (λ x. IsOver x p k) (sym ok.2) (by_process (number_cases p q)) where
    by_process : ((p ≡ q) × (nat_eq p q ≡ true)) ⊎ ((p ≢ q) × (nat_eq p q ≡ false)) → IsOver (record a { open_call = set_at a.open_call q (Some (record { process = q; nth = j; inv = i })); next_nth = set_at a.next_nth q (j + 1) }) p k
    by_process (inl same) =
        let before : k < j = subst (λ n. k < n) (ap a.next_nth same.0 ∙ ok.1) over.begun in
        record { begun = rw same.1 (omega arith); later = λ o is. let some : Some (record { process = q; nth = j; inv = i }) ≡ Some o = (rw same.1 at is) in let own : record { process = q; nth = j; inv = i } ≡ o = cc in subst (λ (x : Invoked I). k < x.nth) own before }
    by_process (inr other) = record { begun = rw other.1 over.begun; later = λ o is. over.later o (rw other.1 at is) }
  IsOver-kept a b (Linearize c) p k over ok = subst (λ x. IsOver x p k) (sym ok.2) (record { begun = over.begun; later = over.later })
  IsOver-kept a b (Respond q j r) p k over ok = subst (λ x. IsOver x p k) (sym ok.1) (record {
    begun = over.begun;
    later = λ o is. elim (set_at-cases a.open_call q None p) [ inl own ↦ absurd (let none = own.1 in cc) | inr other ↦ over.later o (sym other.1 ∙ is) ];
  })

  IsOver-all : (a b : Atomic S I) (acts : List (Act I R)) (p k : ℕ) → IsOver a p k → AcceptsAll object a acts b → IsOver b p k
  IsOver-all a b [] p k over ok = subst (λ x. IsOver x p k) (sym ok) over
  IsOver-all a b (act ∷ acts) p k over ok = IsOver-all ok.0 b acts p k (IsOver-kept a ok.0 act p k over ok.1) ok.2

  -- and doesn't end again
  not_again : (a b : Atomic S I) (acts : List (Act I R)) (p k : ℕ) (r : R) (j : ℕ) → IsOver a p k → AcceptsAll object a acts b → slice_get acts j ≡ Some (Respond p k r) → ⊥
  not_again a b [] p k r j over ok is = cc
  not_again a b (act ∷ acts) p k r zero over ok is =
      let same : act ≡ Respond p k r = cc in
      let its = subst (λ x. Accepts object a x ok.0) same ok.1 in
      let later : k < k = over.later (record { process = p; nth = k; inv = its.0.0 }) its.0.2 in
      omega arith
  not_again a b (act ∷ acts) p k r (suc j) over ok is = not_again ok.0 b acts p k r j (IsOver-kept a ok.0 act p k over ok.1) ok.2 is

  -- a place keeps its call and its answer
  IsAnswered-kept : (a b : Atomic S I) (act : Act I R) (p k : ℕ) (r : R) → IsAnswered object a p k r → Accepts object a act b → IsAnswered object b p k r
  IsAnswered-kept a b (Invoke q j i) p k r is ok = subst (λ x. IsAnswered object x p k r) (sym ok.2) (record { place = is.place; inv = is.inv; at_place = is.at_place; response = is.response })
  IsAnswered-kept a b (Linearize c) p k r is ok = subst (λ x. IsAnswered object x p k r) (sym ok.2) (record {
    place = is.place;
    inv = is.inv;
    at_place = slice_get-append_left a.agreed (c ∷ []) is.place _ is.at_place;
    response = rw (map-append (λ (d : Invoked I). d.inv) a.agreed (c ∷ [])) (response_at-prefix a.start (map (λ (d : Invoked I). d.inv) a.agreed) (c.inv ∷ []) is.place r is.response);
  })
  IsAnswered-kept a b (Respond q j s) p k r is ok = subst (λ x. IsAnswered object x p k r) (sym ok.1) (record { place = is.place; inv = is.inv; at_place = is.at_place; response = is.response })

  IsAnswered-all : (a b : Atomic S I) (acts : List (Act I R)) (p k : ℕ) (r : R) → IsAnswered object a p k r → AcceptsAll object a acts b → IsAnswered object b p k r
  IsAnswered-all a b [] p k r is ok = subst (λ x. IsAnswered object x p k r) (sym ok) is
  IsAnswered-all a b (act ∷ acts) p k r is ok = IsAnswered-all ok.0 b acts p k r (IsAnswered-kept a ok.0 act p k r is ok.1) ok.2

  pub orderly_all : (a b : Atomic S I) (acts : List (Act I R)) → IsOrderly a → AcceptsAll object a acts b → IsOrderly b
  orderly_all a b [] h ok = subst IsOrderly (sym ok) h
  orderly_all a b (act ∷ acts) h ok = orderly_all ok.0 b acts (orderly a ok.0 act h ok.1) ok.2

  -- each response is the end of a call that took effect where the object answers so
  pub responses_end : (a b : Atomic S I) (acts : List (Act I R)) → IsOrderly a → AcceptsAll object a acts b → (j p k : ℕ) (r : R) → slice_get acts j ≡ Some (Respond p k r)
      → IsOver b p k × IsAnswered object b p k r
  responses_end a b [] h ok j p k r is = absurd (cc)
  responses_end a b (act ∷ acts) h ok zero p k r is =
      let same : act ≡ Respond p k r = cc in
      let its = subst (λ x. Accepts object a x ok.0) same ok.1 in
      let over = subst (λ x. IsOver x p k) (sym its.1) (IsOver-responded a p k its.0.0 its.0.1 h its.0.2 its.0.3) in
      let answered = subst (λ x. IsAnswered object x p k r) (sym its.1) (record { place = its.0.1; inv = its.0.0; at_place = its.0.3; response = its.0.4 }) in
      (IsOver-all ok.0 b acts p k over ok.2, IsAnswered-all ok.0 b acts p k r answered ok.2)
  responses_end a b (act ∷ acts) h ok (suc j) p k r is = responses_end ok.0 b acts (orderly a ok.0 act h ok.1) ok.2 j p k r is

  -- and no call ends twice
  pub responses_once : (a b : Atomic S I) (acts : List (Act I R)) → IsOrderly a → AcceptsAll object a acts b → (i j p k : ℕ) (r s : R)
      → slice_get acts i ≡ Some (Respond p k r) → slice_get acts j ≡ Some (Respond p k s) → i ≡ j
  responses_once a b [] h ok i j p k r s at_i at_j = absurd (cc)
  responses_once a b (act ∷ acts) h ok zero zero p k r s at_i at_j = refl
  responses_once a b (act ∷ acts) h ok zero (suc j) p k r s at_i at_j = absurd (not_again ok.0 b acts p k s j (responses_end a ok.0 (act ∷ []) h (ok.0, ok.1, refl) zero p k r at_i).0 ok.2 at_j)
  responses_once a b (act ∷ acts) h ok (suc i) zero p k r s at_i at_j = absurd (not_again ok.0 b acts p k r i (responses_end a ok.0 (act ∷ []) h (ok.0, ok.1, refl) zero p k s at_j).0 ok.2 at_i)
  responses_once a b (act ∷ acts) h ok (suc i) (suc j) p k r s at_i at_j = ap suc (responses_once ok.0 b acts (orderly a ok.0 act h ok.1) ok.2 i j p k r s at_i at_j)

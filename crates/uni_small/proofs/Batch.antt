-- The calls of a scan take effect one after another.
use Rattle.uni_small.proofs.Vocabulary.{AcceptsAll, Atomic, Contains, Contains-append_cases, Image, Invoked, Linearize, List, None, Option, Sequential, Some, [], ap, append-nil, append_assoc, arith, calls_seen, due_at, get_or-set_same, inl, inr, length, length-set, map, refl, reply_of, response_at, slice_get, slice_index, slice_set, subst, suc, sum, sym, taken_in, with_seen, zero, ℕ, ◌++◌, ◌+◌, ◌<◌, ◌∙◌, ◌∷◌, ◌≡◌, ◌≤◌, ◌⊎◌}
use Rattle.std.proofs.lemmas.List.Sums.{sum_by-set}
use Rattle.uni_small.proofs.Images.{reply-before}

contains_cons : {A : Type 0} (x : A) (xs : List A) (y : A) → Contains (x ∷ xs) y → (x ≡ y) ⊎ Contains xs y
contains_cons x xs y (zero, below, e) = inl e
contains_cons x xs y (suc k, below, e) = inr (k, (let b = below in omega arith), e)

not_empty : {A : Type 0} (y : A) → Contains [] y → ⊥
not_empty y (k, below, e) = let b = below in omega arith

-- a call that is seen is that of a process that was seen with an invocation
pub call_seen : (applied : List ℕ) (r : ℕ) (seen : List (Option (List ℕ))) (c : Invoked (List ℕ)) → Contains (calls_seen applied r seen) c
    → (j : ℕ) × (c.process ≡ r + j) × (c.nth ≡ slice_index applied (r + j)) × (slice_get seen j ≡ Some (Some c.inv))
call_seen applied r [] c has = absurd (not_empty c has)
call_seen applied r (None ∷ seen) c has =
    let more = call_seen applied (r + 1) seen c has in
    let e : r + 1 + more.0 ≡ r + suc more.0 = omega arith in
    (suc more.0, more.1 ∙ e, more.2 ∙ ap (slice_index applied) e, more.3)
call_seen applied r (Some inv ∷ seen) c has = elim (contains_cons _ _ c has) [
  | inl here ↦
      let z : r ≡ r + 0 = omega arith in
      (0, sym (ap (λ (d : Invoked (List ℕ)). d.process) here) ∙ z, sym (ap (λ (d : Invoked (List ℕ)). d.nth) here) ∙ ap (slice_index applied) z, ap (λ (d : Invoked (List ℕ)). Some (Some d.inv)) here)
  | inr later ↦
      let more = call_seen applied (r + 1) seen c later in
      let e : r + 1 + more.0 ≡ r + suc more.0 = omega arith in
      (suc more.0, more.1 ∙ e, more.2 ∙ ap (slice_index applied) e, more.3)
]

module _ (object : Sequential (List ℕ) (List ℕ) (List ℕ)) where
  -- each of them takes effect at its place, with the reply that the image has then
  pub taken_seen : (applied : List ℕ) (image : Image) (r : ℕ) (seen : List (Option (List ℕ))) (j : ℕ) (inv : List ℕ) → slice_get seen j ≡ Some (Some inv) → r + length seen ≤ length image.reply
      → (k : ℕ) × (slice_get (calls_seen applied r seen) k ≡ Some (record { process = r + j; nth = slice_index applied (r + j); inv = inv }))
      × (response_at object image.state (map (λ c. c.inv) (calls_seen applied r seen)) k ≡ Some (reply_of (with_seen object image r seen) (r + j)))
  taken_seen applied image r [] j inv at room = absurd (let f = at in cc)
  taken_seen applied image r (None ∷ seen) zero inv at room = absurd (let f : None ≡ Some inv = cc in cc)
  taken_seen applied image r (None ∷ seen) (suc j) inv at room =
      let more = taken_seen applied image (r + 1) seen j inv at (omega arith) in
      let e : r + 1 + j ≡ r + suc j = omega arith in
      (more.0, more.1 ∙ ap (λ i. Some (record { process = i; nth = slice_index applied i; inv = inv })) e, more.2 ∙ ap (λ i. Some (reply_of (with_seen object image (r + 1) seen) i)) e)
  taken_seen applied image r (Some i ∷ seen) zero inv at room =
      let same : i ≡ inv = cc in
      let z : r ≡ r + 0 = omega arith in (
        0,
        (λ k. Some (record { process = z k; nth = slice_index applied (z k); inv = same k })),
        sym (ap Some (ap (reply_of (with_seen object (taken_in object image r i) (r + 1) seen)) (sym z)
            ∙ reply-before object (taken_in object image r i) (r + 1) seen r (omega arith) ∙ get_or-set_same image.reply r (object.answer image.state i) [] (omega arith))),
      )
  taken_seen applied image r (Some i ∷ seen) (suc j) inv at room =
      let more = taken_seen applied (taken_in object image r i) (r + 1) seen j inv at (let l = length-set image.reply r (object.answer image.state i) in omega arith) in
      let e : r + 1 + j ≡ r + suc j = omega arith in (
        suc more.0,
        more.1 ∙ ap (λ k. Some (record { process = k; nth = slice_index applied k; inv = inv })) e,
        more.2 ∙ ap (λ k. Some (reply_of (with_seen object (taken_in object image r i) (r + 1) seen) k)) e,
      )

  -- the atomic object accepts them
  pub linearized : (applied : List ℕ) (r : ℕ) (seen : List (Option (List ℕ))) (a : Atomic (List ℕ) (List ℕ))
      → ((j : ℕ) (inv : List ℕ) → slice_get seen j ≡ Some (Some inv) → a.open_call (r + j) ≡ Some (record { process = r + j; nth = slice_index applied (r + j); inv = inv }))
      → ((c : Invoked (List ℕ)) → Contains a.agreed c → (c.process < r) ⊎ (c.nth < slice_index applied c.process))
      → AcceptsAll {R = List ℕ} object a (map (λ c. Linearize c) (calls_seen applied r seen)) (record a { agreed = a.agreed ++ calls_seen applied r seen })
  linearized applied r [] a opened old = ap (λ l. record a { agreed = l }) (append-nil a.agreed)
  linearized applied r (None ∷ seen) a opened old = linearized applied (r + 1) seen a
      (λ j inv at. let e : r + suc j ≡ r + 1 + j = omega arith in
      subst (λ i. a.open_call i ≡ Some (record { process = i; nth = slice_index applied i; inv = inv })) e (opened (suc j) inv at))
      (λ c has. elim (old c has) [ inl before ↦ inl (omega (arith, before)) | inr less ↦ inr less ])
  linearized applied r (Some inv ∷ seen) a opened old =
      let call : Invoked (List ℕ) = record { process = r; nth = slice_index applied r; inv = inv } in
      let z : r + 0 ≡ r = omega arith in (
        record a { agreed = a.agreed ++ call ∷ [] },
        (
          subst (λ i. a.open_call i ≡ Some (record { process = i; nth = slice_index applied i; inv = inv })) z (opened 0 inv refl),
          (λ has. elim (old call has) [ inl before ↦ (let b : r < r = before in omega arith) | inr less ↦ (let b : slice_index applied r < slice_index applied r = less in omega arith) ]),
          refl,
        ),
        subst (λ l. AcceptsAll {R = List ℕ} object (record a { agreed = a.agreed ++ call ∷ [] }) (map (λ c. Linearize c) (calls_seen applied (r + 1) seen)) (record a { agreed = l }))
            (append_assoc a.agreed (call ∷ []) (calls_seen applied (r + 1) seen))
            (linearized applied (r + 1) seen (record a { agreed = a.agreed ++ call ∷ [] })
            (λ j i at. let e : r + suc j ≡ r + 1 + j = omega arith in
            subst (λ q. a.open_call q ≡ Some (record { process = q; nth = slice_index applied q; inv = i })) e (opened (suc j) i at))
            (λ c has. elim (Contains-append_cases a.agreed (call ∷ []) c has) [
              | inl was ↦ elim (old c was) [ inl before ↦ inl (omega (arith, before)) | inr less ↦ inr less ]
              | inr new ↦ elim (contains_cons call [] c new) [
                | inl same ↦ inl (let e : r ≡ c.process = ap (λ (d : Invoked (List ℕ)). d.process) same in omega arith)
                | inr none ↦ absurd (not_empty c none)
              ]
            ])),
      )

  -- no count falls, and one that is due rises
  pub sum-seen : (image : Image) (r : ℕ) (seen : List (Option (List ℕ))) → r + length seen ≤ length image.applied → sum image.applied ≤ sum (with_seen object image r seen).applied
  sum-seen image r [] room = omega arith
  sum-seen image r (None ∷ seen) room = sum-seen image (r + 1) seen (omega arith)
  sum-seen image r (Some inv ∷ seen) room =
      let more = sum-seen (taken_in object image r inv) (r + 1) seen (let l = length-set image.applied r (slice_index image.applied r + 1) in omega arith) in
      let one : sum (slice_set image.applied r (slice_index image.applied r + 1)) + slice_index image.applied r ≡ sum image.applied + (slice_index image.applied r + 1)
      = sum_by-set (λ x. x) image.applied r (slice_index image.applied r + 1) 0 (omega arith) in
      omega arith

  pub sum-rises : (image : Image) (r : ℕ) (seen : List (Option (List ℕ))) (j : ℕ) → r + length seen ≤ length image.applied → due_at seen j ≡ 1 → sum image.applied + 1 ≤ sum (with_seen object image r seen).applied
  sum-rises image r [] j room due = absurd (omega arith)
  sum-rises image r (None ∷ seen) zero room due = absurd (omega arith)
  sum-rises image r (None ∷ seen) (suc j) room due = sum-rises image (r + 1) seen j (omega arith) due
  sum-rises image r (Some inv ∷ seen) j room due =
      let more = sum-seen (taken_in object image r inv) (r + 1) seen (let l = length-set image.applied r (slice_index image.applied r + 1) in omega arith) in
      let one : sum (slice_set image.applied r (slice_index image.applied r + 1)) + slice_index image.applied r ≡ sum image.applied + (slice_index image.applied r + 1)
      = sum_by-set (λ x. x) image.applied r (slice_index image.applied r + 1) 0 (omega arith) in
      omega arith

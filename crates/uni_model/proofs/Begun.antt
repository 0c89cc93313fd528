-- A call that is begun keeps the invariant.
use Rattle.uni_model.proofs.Vocabulary.{Anchor, Announce, Grows, Has, InvOf, Invocation, IsSound, Memory, Name, None, Of, Option, Pending, Sequential, Some, Stands, WorldOf, ap, arith, calls_in_era, can_be_linked, cases_lt, inl, inr, inv_of, memory_with, refl, set_at, subst, sum_below, sym, world_after_call, ℕ, ◌+◌, ◌-◌, ◌<◌, ◌∙◌, ◌≡◌, ◌≢◌, ◌≤◌, ◌⊎◌}
use Rattle.uni_model.proofs.Written.{set_at-cases, number_cases, inv_of-memory_with}
use Rattle.uni_model.proofs.Grows.{Has-inv, Stands-grows}
use Rattle.uni_model.proofs.Sums.{sum_below-le}

module _ {S I R : Type 0} (object : Sequential S I R) (w : WorldOf S I R) (num : Name → ℕ) (last : ℕ) (sound : IsSound object w num last)
    (p : ℕ) (i : I) (inside : p < w.n) (idle : w.call p ≡ None) where
  -- the new cell
  mine : Name
  mine = Of p (w.begun p)

  pub fresh : inv_of w.memory (Of p (w.begun p)) ≡ None
  fresh = by_inv (inv_of w.memory (Of p (w.begun p))) refl where
    by_inv : (o : Option I) → inv_of w.memory (Of p (w.begun p)) ≡ o → o ≡ None
    by_inv None e = refl
    by_inv (Some j) e = absurd (let below = (sound.calls.begun p (w.begun p) (j, e)).2 in omega arith)

  pub not_linked : num (Of p (w.begun p)) ≡ 0
  not_linked = elim (cases_lt 0 (num (Of p (w.begun p)))) [
    | inl linked ↦ absurd (let its = sound.calls.linked p (w.begun p) linked in let e = its.1 in let f = fresh in cc)
    | inr none ↦ omega arith
  ]

  memory : Memory S I R
  memory = memory_with w.memory (InvOf (Of p (w.begun p))) (Invocation (Some i))

  pub Grows-begun : Grows w.memory (memory_with w.memory (InvOf (Of p (w.begun p))) (Invocation (Some i)))
  Grows-begun = record {
    seq = λ x h. refl;
    after = λ x y e. e;
    new = λ x v e. e;
    before = λ x y e. e;
    inv = λ x j e. elim (inv_of-memory_with w.memory (Of p (w.begun p)) x (Some i)) [
      | inl h ↦ absurd (let f = ap (inv_of w.memory) h.0 in let g = fresh in cc)
      | inr h ↦ h.1 ∙ e
    ];
  }

  later : WorldOf S I R
  later = world_after_call w p i

  own_inv : inv_of (memory_with w.memory (InvOf (Of p (w.begun p))) (Invocation (Some i))) (Of p (w.begun p)) ≡ Some i
  own_inv = elim (inv_of-memory_with w.memory (Of p (w.begun p)) (Of p (w.begun p)) (Some i)) [ inl h ↦ h.1 | inr h ↦ absurd (h.0 refl) ]

  -- a cell that is there was there, or is the new one
  was_there : (q k : ℕ) → Has (inv_of (memory_with w.memory (InvOf (Of p (w.begun p))) (Invocation (Some i))) (Of q k)) → ((q ≡ p) × (k ≡ w.begun p)) ⊎ Has (inv_of w.memory (Of q k))
  was_there q k made = elim (inv_of-memory_with w.memory (Of p (w.begun p)) (Of q k) (Some i)) [
    | inl h ↦ inl (process_of h.0, nth_of h.0)
    | inr h ↦ inr (made.0, sym h.1 ∙ made.1)
  ] where
    process_of : Of q k ≡ Of p (w.begun p) → q ≡ p
    process_of e = cc

    nth_of : Of q k ≡ Of p (w.begun p) → k ≡ w.begun p
    nth_of e = cc

  was_pending : (q : ℕ) (c : Pending) → set_at w.call p (Some (record { mine = Of p (w.begun p); stage = Announce })) q ≡ Some c
      → ((q ≡ p) × (c ≡ record { mine = Of p (w.begun p); stage = Announce })) ⊎ ((q ≢ p) × (w.call q ≡ Some c))
  was_pending q c e = elim (set_at-cases w.call p (Some (record { mine = Of p (w.begun p); stage = Announce })) q) [
    | inl h ↦ inl (h.0, (let f = h.1 in cc))
    | inr h ↦ inr (h.0, sym h.1 ∙ e)
  ]

  begun_more : (q : ℕ) → w.begun q ≤ set_at w.begun p (w.begun p + 1) q
  begun_more q = elim (set_at-cases w.begun p (w.begun p + 1) q) [
    | inl h ↦ let e = h.1 in let f : w.begun q ≡ w.begun p = ap w.begun h.0 in omega arith
    | inr h ↦ let e = h.1 in omega arith
  ]

  begun_here : (q : ℕ) → q ≡ p → set_at w.begun p (w.begun p + 1) q ≡ w.begun p + 1
  begun_here q same = elim (set_at-cases w.begun p (w.begun p + 1) q) [ inl h ↦ h.1 | inr h ↦ absurd (h.0 same) ]

  count_kept : (q : ℕ) → can_be_linked num (w.call q) (calls_in_era w q)
      ≤ can_be_linked num (set_at w.call p (Some (record { mine = Of p (w.begun p); stage = Announce })) q) (set_at w.begun p (w.begun p + 1) q - w.first q)
  count_kept q = elim (number_cases q p) [
    | inl h ↦ rw (h.1, ap w.call h.0 ∙ idle, ap w.begun h.0) (elim (number_cases (num (Of p (w.begun p))) 0) [
      | inl none ↦ rw none.1 (omega arith)
      | inr some ↦ absurd (some.0 not_linked)
    ])
    | inr h ↦ rw h.1 (omega arith)
  ]

  pub IsSound-begun : IsSound object (world_after_call w p i) num last
  IsSound-begun = record {
    numbered = record {
      anchor = sound.numbered.anchor;
      first = sound.numbered.first;
      least = sound.numbered.least;
      greatest = sound.numbered.greatest;
      one_each = sound.numbered.one_each;
      link = sound.numbered.link;
      goes_on = sound.numbered.goes_on;
      seq = sound.numbered.seq;
      threaded = sound.numbered.threaded;
    };
    values = record {
      anchor = sound.values.anchor;
      none = sound.values.none;
      threaded = sound.values.threaded;
      after = λ a b v e settled. let was = sound.values.after a b v e settled in
          record { before = was.before; inv = was.inv; new_of_x = was.new_of_x; inv_of_y = Grows-begun.inv b was.inv was.inv_of_y; value = was.value };
    };
    back = record { link = sound.back.link; threaded = sound.back.threaded };
    calls = record {
      anchor = elim (inv_of-memory_with w.memory (Of p (w.begun p)) Anchor (Some i)) [ inl h ↦ absurd (let e = h.0 in cc) | inr h ↦ h.1 ∙ sound.calls.anchor ];
      linked = λ q k linked. Has-inv w.memory _ Grows-begun (Of q k) (sound.calls.linked q k linked);
      begun = λ q k made. elim (was_there q k made) [
        | inl new ↦ (let e = new.0 in subst (λ r. r < w.n) (sym e) inside, subst (λ r. w.first r ≤ k) (sym new.0) (let since = sound.calls.first p in let k_is = new.1 in omega arith), (let more = begun_here q new.0 in let k_is = new.1 in omega arith))
        | inr old ↦ let was = sound.calls.begun q k old in (was.0, was.1, (let less = was.2 in let more = begun_more q in omega arith))
      ];
      first = λ q. let since = sound.calls.first q in let more = begun_more q in omega arith;
      made = λ q k since before. elim (set_at-cases w.begun p (w.begun p + 1) q) [
        | inl here ↦ elim (cases_lt k (w.begun p)) [
          | inl old ↦ Has-inv w.memory _ Grows-begun (Of q k) (sound.calls.made q k since (let same : w.begun q ≡ w.begun p = ap w.begun here.0 in omega arith))
          | inr late ↦
              let last : k ≡ w.begun p = (let less : k < set_at w.begun p (w.begun p + 1) q = before in let now : set_at w.begun p (w.begun p + 1) q ≡ w.begun p + 1 = here.1 in omega arith) in
              (i, ap (inv_of (memory_with w.memory (InvOf (Of p (w.begun p))) (Invocation (Some i)))) (ap (λ r. Of r k) here.0 ∙ ap (Of p) last) ∙ own_inv)
        ]
        | inr other ↦ Has-inv w.memory _ Grows-begun (Of q k) (sound.calls.made q k since (let less : k < set_at w.begun p (w.begun p + 1) q = before in let now : set_at w.begun p (w.begun p + 1) q ≡ w.begun q = other.1 in omega arith))
      ];
      process = λ q c e. elim (was_pending q c e) [ inl new ↦ subst (λ r. r < w.n) (sym new.0) inside | inr old ↦ sound.calls.process q c old.1 ];
      mine = λ q c e. elim (was_pending q c e) [
        | inl new ↦ (
          w.begun p,
          ap (λ (x : Pending). x.mine) new.1 ∙ ap (λ r. Of r (w.begun p)) (sym new.0),
          begun_here q new.0,
          (i, ap (λ r. inv_of (memory_with w.memory (InvOf (Of p (w.begun p))) (Invocation (Some i))) (Of r (w.begun p))) new.0 ∙ own_inv),
        )
        | inr old ↦
            let its = sound.calls.mine q c old.1 in
            (its.0, its.1, (elim (set_at-cases w.begun p (w.begun p + 1) q) [ inl h ↦ absurd (old.0 h.0) | inr h ↦ h.1 ∙ its.2 ]), Has-inv w.memory _ Grows-begun (Of q its.0) its.3)
      ];
      threaded = λ q k made. elim (was_there q k made) [
        | inl new ↦ inr (
          record { mine = Of p (w.begun p); stage = Announce },
          (elim (set_at-cases w.call p (Some (record { mine = Of p (w.begun p); stage = Announce })) q) [ inl h ↦ h.1 | inr h ↦ absurd (h.0 new.0) ]),
          (let a = new.0 in let b = new.1 in cc),
        )
        | inr old ↦ elim (sound.calls.threaded q k old) [
          | inl number ↦ inl number
          | inr pending ↦ inr (
            pending.0,
            (elim (set_at-cases w.call p (Some (record { mine = Of p (w.begun p); stage = Announce })) q) [
              | inl h ↦ absurd (let none : w.call q ≡ None = ap w.call h.0 ∙ idle in let some = pending.1 in cc)
              | inr h ↦ h.1 ∙ pending.1
            ]),
            pending.2,
          )
        ]
      ];
      announced = λ q below. elim (sound.calls.announced q below) [
        | inl anchor ↦ inl anchor
        | inr cell ↦ inr (cell.0, cell.1, Has-inv w.memory _ Grows-begun (Of q cell.0) cell.2)
      ];
      head = sound.calls.head;
      order = sound.calls.order;
    };
    stands = λ q c e. elim (was_pending q c e) [
      | inl new ↦ subst (λ (x : Pending). Stands (memory_with w.memory (InvOf (Of p (w.begun p))) (Invocation (Some i))) num w.n q x.mine x.stage) (sym new.1) tt
      | inr old ↦ Stands-grows w.memory _ Grows-begun num num (λ x. inl refl) q refl (sound.calls.head q (sound.calls.process q c old.1)) w.n c.mine c.stage (sound.stands q c old.1)
    ];
    count =
        let rising : sum_below w.n (λ q. can_be_linked num (w.call q) (calls_in_era w q))
        ≤ sum_below w.n (λ q. can_be_linked num (set_at w.call p (Some (record { mine = Of p (w.begun p); stage = Announce })) q) (set_at w.begun p (w.begun p + 1) q - w.first q))
        = sum_below-le w.n _ _ (λ q h. count_kept q) in
        let was : last ≤ num Anchor + sum_below w.n (λ q. can_be_linked num (w.call q) (calls_in_era w q)) = sound.count in
        omega arith;
  }

-- A step of one process: what has to be shown of it, so that the invariant holds after it.
use Rattle.uni_model.proofs.Vocabulary.{Anchor, AreCalls, Bool, DecideAfter, Grows, Has, HasValues, IsNumbered, IsSound, LeadsBack, Memory, Name, None, Of, Option, Pending, Sequential, Some, Stage, Stands, WorldOf, announce_of, ap, arith, call_after, calls_in_era, can_be_linked, cond, false, head_of, head_seq, inl, inr, inv_of, nat_eq, refl, seq_of, set_at, subst, sum_below, sym, true, ℕ, ◌+◌, ◌-◌, ◌<◌, ◌∙◌, ◌≡◌, ◌≢◌, ◌≤◌, ◌⊎◌}
use Rattle.uni_model.proofs.Written.{set_at-cases, number_cases}
use Rattle.uni_model.proofs.Grows.{NumbersGrow, Has-inv, Stands-grows}
use Rattle.uni_model.proofs.Numbered.{numbered_last}
use Rattle.uni_model.proofs.Sums.{sum_below-le}

-- what process p stands at after its step, if it goes on
abbrev pub StandsNext : {S I R : Type 0} → Memory S I R → (Name → ℕ) → (n p : ℕ) → (mine : Name) → Option Stage → Type 0
StandsNext m num n p mine None = 1 ≤ seq_of m mine
StandsNext m num n p mine (Some stage) = Stands m num n p mine stage

-- the numbers after a step from a stage: as before, or one more, of the cell that the step links after the last one
abbrev pub Extends : (num : Name → ℕ) (last : ℕ) (num' : Name → ℕ) (last' : ℕ) → Stage → Type 0
Extends num last num' last' stage =
    ((num' ≡ num) × (last' ≡ last))
    ⊎ ((c : Name) × (x : Name) × (stage ≡ DecideAfter c last x) × (num x ≡ 0) × (num' ≡ numbered_last num last x) × (last' ≡ last + 1))

-- p, whose cell is mine, leads from the memory of w to m and goes on at this stage
pub record Moves {S I R : Type 0} (object : Sequential S I R) (w : WorldOf S I R) (num : Name → ℕ) (p : ℕ) (mine : Name) (m : Memory S I R) (num' : Name → ℕ) (last' : ℕ) (stage : Option Stage) : Type 0 where
  pub numbered : IsNumbered m num' last'
  pub values : HasValues object m num'
  pub back : LeadsBack m
  pub grows : Grows w.memory m
  pub numbers : NumbersGrow w.memory num num'
  pub heads : (q : ℕ) → q ≢ p → head_of m q ≡ head_of w.memory q
  pub head : 1 ≤ head_seq m p
  pub announced : (q : ℕ) → (announce_of m q ≡ announce_of w.memory q) ⊎ ((q ≡ p) × (announce_of m q ≡ mine))
  pub inv : (x : Name) → inv_of m x ≡ inv_of w.memory x
  pub linked : (q k : ℕ) → 1 ≤ num' (Of q k) → Has (inv_of w.memory (Of q k))
  pub stands : StandsNext m num' w.n p mine stage
  pub count : last' ≤ num' Anchor + sum_below w.n (λ q. can_be_linked num' (w.call q) (calls_in_era w q))

module _ {S I R : Type 0} (object : Sequential S I R) (w : WorldOf S I R) (num : Name → ℕ) (last : ℕ) (sound : IsSound object w num last)
    (p : ℕ) (mine : Name) (from : Stage) (is : w.call p ≡ Some (record { mine = mine; stage = from }))
    (m : Memory S I R) (num' : Name → ℕ) (last' : ℕ) (stage : Option Stage) (moves : Moves object w num p mine m num' last' stage) where
  call_later : ℕ → Option Pending
  call_later = set_at w.call p (call_after mine stage)

  -- who has a call pending afterwards had it before, with the same cell
  pub was_pending : (q : ℕ) (c : Pending) → set_at w.call p (call_after mine stage) q ≡ Some c → (d : Pending) × (w.call q ≡ Some d) × (c.mine ≡ d.mine)
  was_pending q c e = elim (set_at-cases w.call p (call_after mine stage) q) [
    | inl h ↦ (record { mine = mine; stage = from }, ap w.call h.0 ∙ is, of_stage stage (sym h.1 ∙ e))
    | inr h ↦ (c, sym h.1 ∙ e, refl)
  ] where
    of_stage : (k : Option Stage) → call_after mine k ≡ Some c → c.mine ≡ mine
    of_stage None f = cc
    of_stage (Some k) f = let same : c ≡ record { mine = mine; stage = k } = cc in ap (λ (x : Pending). x.mine) same

  -- the positive number of a cell stays
  positive : (x : Name) → 1 ≤ seq_of w.memory x → 1 ≤ seq_of m x
  positive x h = subst (λ t. 1 ≤ t) (sym (moves.grows.seq x h)) h

  has_inv : (x : Name) → Has (inv_of m x) → Has (inv_of w.memory x)
  has_inv x h = (h.0, sym (moves.inv x) ∙ h.1)

  still_or_threaded : (q k : ℕ) → (c : Pending) × (w.call q ≡ Some c) × (c.mine ≡ Of q k)
      → (1 ≤ seq_of m (Of q k)) ⊎ ((c : Pending) × (call_later q ≡ Some c) × (c.mine ≡ Of q k))
  unfolding call_later
  still_or_threaded q k h = elim (set_at-cases w.call p (call_after mine stage) q) [
    | inl at_p ↦
        let same : h.0 ≡ record { mine = mine; stage = from } = (let e = sym h.1 ∙ (ap w.call at_p.0 ∙ is) in cc) in
        let its : mine ≡ Of q k = sym (ap (λ (x : Pending). x.mine) same) ∙ h.2 in
        at_stage stage moves.stands at_p.1 its
    | inr other ↦ inr (h.0, other.1 ∙ h.1, h.2)
  ] where
    at_stage : (k' : Option Stage) → StandsNext m num' w.n p mine k' → set_at w.call p (call_after mine stage) q ≡ call_after mine k' → mine ≡ Of q k
        → (1 ≤ seq_of m (Of q k)) ⊎ ((c : Pending) × (set_at w.call p (call_after mine stage) q ≡ Some c) × (c.mine ≡ Of q k))
    at_stage None done e its = inl (subst (λ x. 1 ≤ seq_of m x) its done)
    at_stage (Some k') on e its = inr (record { mine = mine; stage = k' }, e, its)

  later : WorldOf S I R
  later = record { n = w.n; memory = m; call = set_at w.call p (call_after mine stage); begun = w.begun; first = w.first; among = w.among; steps = w.steps; turns = w.turns }

  -- a cell that is linked now and wasn't threaded has a call that is pending, so it is the last one of its process
  linked_before : (q k j : ℕ) → k < j → Has (inv_of w.memory (Of q j)) → Has (inv_of w.memory (Of q k)) → 1 ≤ seq_of w.memory (Of q k)
  linked_before q k j less later earlier = elim (sound.calls.threaded q k earlier) [
    | inl threaded ↦ threaded
    | inr pending ↦ absurd (
        let its = sound.calls.mine q pending.0 pending.1 in
        let same : its.0 ≡ k = (let e = sym its.1 ∙ pending.2 in cc) in
        let begun : w.begun q ≡ its.0 + 1 = its.2 in
        let below : j < w.begun q = (sound.calls.begun q j later).2 in
        omega arith)
  ]

  order_later : (q k j : ℕ) → k < j → 1 ≤ num' (Of q k) → 1 ≤ num' (Of q j) → num' (Of q k) < num' (Of q j)
  order_later q k j less linked_k linked_j =
      let threaded : 1 ≤ seq_of w.memory (Of q k) = linked_before q k j less (moves.linked q j linked_j) (moves.linked q k linked_k) in
      let number : seq_of m (Of q k) ≡ seq_of w.memory (Of q k) = moves.grows.seq (Of q k) threaded in
      let now : seq_of m (Of q k) ≡ num' (Of q k) = moves.numbered.seq (Of q k) (positive (Of q k) threaded) in
      let was : seq_of w.memory (Of q k) ≡ num (Of q k) = sound.numbered.seq (Of q k) threaded in
      elim (moves.numbers (Of q j)) [
        | inl old ↦
            let before : num (Of q k) < num (Of q j) = sound.calls.order q k j less (omega arith) (omega arith) in
            omega arith
        | inr new ↦ let past : seq_of w.memory (Of q k) < num' (Of q j) = new (Of q k) threaded in omega arith
      ]

  calls_later : AreCalls later num'
  unfolding later call_later
  calls_later = record {
    anchor = moves.inv Anchor ∙ sound.calls.anchor;
    linked = λ q k linked. let was = moves.linked q k linked in (was.0, moves.inv (Of q k) ∙ was.1);
    begun = λ q k made. sound.calls.begun q k (has_inv (Of q k) made);
    first = sound.calls.first;
    made = λ q k since before. let was = sound.calls.made q k since before in (was.0, moves.inv (Of q k) ∙ was.1);
    process = λ q c e. let was = was_pending q c e in sound.calls.process q was.0 was.1;
    mine = λ q c e.
        let was = was_pending q c e in
        let its = sound.calls.mine q was.0 was.1 in
        (its.0, was.2 ∙ its.1, its.2, Has-inv w.memory m moves.grows (Of q its.0) its.3);
    threaded = λ q k made. elim (sound.calls.threaded q k (has_inv (Of q k) made)) [
      | inl number ↦ inl (positive (Of q k) number)
      | inr pending ↦ still_or_threaded q k pending
    ];
    announced = λ q inside. elim (moves.announced q) [
      | inl same ↦ elim (sound.calls.announced q inside) [
        | inl anchor ↦ inl (same ∙ anchor)
        | inr cell ↦ inr (cell.0, same ∙ cell.1, Has-inv w.memory m moves.grows (Of q cell.0) cell.2)
      ]
      | inr mine_now ↦
          let its = sound.calls.mine p (record { mine = mine; stage = from }) is in
          inr (
            its.0,
            mine_now.1 ∙ (its.1 ∙ ap (λ r. Of r its.0) (sym mine_now.0)),
            Has-inv w.memory m moves.grows (Of q its.0) (subst (λ r. Has (inv_of w.memory (Of r its.0))) (sym mine_now.0) its.3),
          )
    ];
    head = λ q inside. elim (number_cases q p) [
      | inl at_p ↦ subst (λ r. 1 ≤ head_seq m r) (sym at_p.0) moves.head
      | inr other ↦ subst (λ x. 1 ≤ seq_of m x) (sym (moves.heads q other.0)) (positive (head_of w.memory q) (sound.calls.head q inside))
    ];
    order = order_later;
  }

  stands_later : (q : ℕ) (c : Pending) → set_at w.call p (call_after mine stage) q ≡ Some c → Stands m num' w.n q c.mine c.stage
  stands_later q c e = elim (set_at-cases w.call p (call_after mine stage) q) [
    | inl at_p ↦ subst (λ r. Stands m num' w.n r c.mine c.stage) (sym at_p.0) (at_stage stage moves.stands (sym at_p.1 ∙ e))
    | inr other ↦
        let was : w.call q ≡ Some c = sym other.1 ∙ e in
        Stands-grows w.memory m moves.grows num num' moves.numbers q (moves.heads q other.0) (sound.calls.head q (sound.calls.process q c was))
        w.n c.mine c.stage (sound.stands q c was)
  ] where
    at_stage : (k : Option Stage) → StandsNext m num' w.n p mine k → call_after mine k ≡ Some c → Stands m num' w.n p c.mine c.stage
    at_stage None done f = cc
    at_stage (Some k) on f = let same : record { mine = mine; stage = k } ≡ c = cc in subst (λ (x : Pending). Stands m num' w.n p x.mine x.stage) same on

  no_fewer : (q : ℕ) → can_be_linked num' (w.call q) (calls_in_era w q) ≤ can_be_linked num' (set_at w.call p (call_after mine stage) q) (calls_in_era w q)
  no_fewer q = elim (set_at-cases w.call p (call_after mine stage) q) [
    | inl at_p ↦
        let was : w.call q ≡ Some (record { mine = mine; stage = from }) = ap w.call at_p.0 ∙ is in
        subst (λ o. can_be_linked num' (w.call q) (calls_in_era w q) ≤ can_be_linked num' o (calls_in_era w q)) (sym at_p.1)
        (subst (λ o. can_be_linked num' o (calls_in_era w q) ≤ can_be_linked num' (call_after mine stage) (calls_in_era w q)) (sym was) (at_stage stage))
    | inr other ↦ subst (λ o. can_be_linked num' (w.call q) (calls_in_era w q) ≤ can_be_linked num' o (calls_in_era w q)) (sym other.1) (omega arith)
  ] where
    fewer : (b : Bool) (x : ℕ) → cond b (x - 1) x ≤ x
    fewer true x = omega arith
    fewer false x = omega arith

    at_stage : (k : Option Stage) → can_be_linked num' (Some (record { mine = mine; stage = from })) (calls_in_era w q) ≤ can_be_linked num' (call_after mine k) (calls_in_era w q)
    at_stage None = fewer (nat_eq (num' mine) 0) (calls_in_era w q)
    at_stage (Some k) = omega arith

  -- the invariant holds after the step
  pub IsSound-moved : (steps turns : ℕ → ℕ)
      → IsSound object (record { n = w.n; memory = m; call = set_at w.call p (call_after mine stage); begun = w.begun; first = w.first; among = w.among; steps = steps; turns = turns }) num' last'
  unfolding later
  IsSound-moved steps turns = record {
    numbered = moves.numbered;
    values = moves.values;
    back = moves.back;
    calls = record {
      anchor = calls_later.anchor;
      linked = calls_later.linked;
      begun = calls_later.begun;
      first = calls_later.first;
      made = calls_later.made;
      process = calls_later.process;
      mine = calls_later.mine;
      threaded = calls_later.threaded;
      announced = calls_later.announced;
      head = calls_later.head;
      order = calls_later.order;
    };
    stands = stands_later;
    count =
        let rising : sum_below w.n (λ q. can_be_linked num' (w.call q) (calls_in_era w q)) ≤ sum_below w.n (λ q. can_be_linked num' (set_at w.call p (call_after mine stage) q) (calls_in_era w q))
        = sum_below-le w.n _ _ (λ q h. no_fewer q) in
        let was : last' ≤ num' Anchor + sum_below w.n (λ q. can_be_linked num' (w.call q) (calls_in_era w q)) = moves.count in
        omega arith;
  }
